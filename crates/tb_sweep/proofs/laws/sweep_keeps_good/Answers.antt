use Rattle.tb_sweep.proofs.Keeping.{sweep_kept}
use Rattle.tb_sweep.proofs.laws.sweep_keeps_good.Goals as goal

pub returns : goal.returns
returns c = sweep_kept
