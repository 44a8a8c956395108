use Rattle.tb_core.proofs.KnownKeys.{keeps_caller}
use Rattle.tb_core.proofs.laws.keeps_caller.Goals as goal

pub returns : goal.returns
returns c = keeps_caller
