use Rattle.tb_core.proofs.Opening.{opens}
use Rattle.tb_core.proofs.laws.opens_good.Goals as goal

pub returns : goal.returns
returns c = opens
