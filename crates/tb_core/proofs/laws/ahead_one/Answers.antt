use Rattle.tb_core.proofs.AheadOne.{ahead_one}
use Rattle.tb_core.proofs.laws.ahead_one.Goals as goal

pub returns : goal.returns
returns c = ahead_one
