use Rattle.tb_sweep.proofs.AtOnce.{one_ahead_sweeps}
use Rattle.tb_sweep.proofs.laws.one_ahead_sweeps_at_once.Goals as goal

pub returns : goal.returns
returns c = one_ahead_sweeps
