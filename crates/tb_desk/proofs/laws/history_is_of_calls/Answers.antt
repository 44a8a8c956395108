use Rattle.tb_desk.proofs.Histories.{of_calls}
use Rattle.tb_desk.proofs.laws.history_is_of_calls.Goals as goal

pub returns : goal.returns
returns c = of_calls
