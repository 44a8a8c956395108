use Rattle.tb_sweep.proofs.Settled.{sweep_ends}
use Rattle.tb_sweep.proofs.laws.sweep_ends.Goals as goal

pub returns : goal.returns
returns c = sweep_ends
