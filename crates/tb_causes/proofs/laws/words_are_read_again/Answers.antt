use Rattle.tb_causes.proofs.Quoting.{are_read_again}
use Rattle.tb_causes.proofs.laws.words_are_read_again.Goals as goal

pub returns : goal.returns
returns c = are_read_again
