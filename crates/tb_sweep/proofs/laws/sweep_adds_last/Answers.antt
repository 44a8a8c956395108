use Rattle.tb_sweep.proofs.Settled.{adds_last}
use Rattle.tb_sweep.proofs.laws.sweep_adds_last.Goals as goal

pub returns : goal.returns
returns c = adds_last
