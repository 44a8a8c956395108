use Rattle.tb_deeds.proofs.QuietSweeps.{sweep_tells}
use Rattle.tb_deeds.proofs.laws.sweeps_tell_what_came.Goals as goal

pub returns : goal.returns
returns c = sweep_tells
