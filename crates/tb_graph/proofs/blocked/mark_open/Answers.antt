use Rattle.std.proofs.Common.{arith}
use Rattle.tb_graph.proofs.Lists.{IsIn-at}
use Rattle.tb_graph.proofs.blocked.mark_open.Goals as goal

pub bounds-marks-target : goal.bounds-marks-target
bounds-marks-target c =
    let fits = c.requires _ (IsIn-at c.args.targets.now c.loop-target.target-index c.loop-target-test.true) in
    omega (arith, c.loop-target.invariant.size, fits)
