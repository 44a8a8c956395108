use Rattle.tb_core.proofs.Stays.{stays_good}
use Rattle.tb_core.proofs.laws.keeps_good.Goals as goal

pub returns : goal.returns
returns c = stays_good
