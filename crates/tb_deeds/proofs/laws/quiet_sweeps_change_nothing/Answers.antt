use Rattle.tb_deeds.proofs.QuietSweeps.{quiet_sweep}
use Rattle.tb_deeds.proofs.laws.quiet_sweeps_change_nothing.Goals as goal

pub returns : goal.returns
returns c = quiet_sweep
