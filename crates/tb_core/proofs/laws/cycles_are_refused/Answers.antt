use Rattle.tb_core.proofs.Cycles.{cycles_refused}
use Rattle.tb_core.proofs.laws.cycles_are_refused.Goals as goal

pub returns : goal.returns
returns c = cycles_refused
