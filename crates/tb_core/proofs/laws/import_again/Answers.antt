use Rattle.tb_core.proofs.Again.{todo_again}
use Rattle.tb_core.proofs.laws.import_again.Goals as goal

pub returns : goal.returns
returns c = todo_again
