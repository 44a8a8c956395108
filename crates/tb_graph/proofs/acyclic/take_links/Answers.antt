use Rattle.std.proofs.Common.{arith}
use Rattle.tb_graph.proofs.Lists.{IsIn-at}
use Rattle.tb_graph.proofs.acyclic.take_links.Goals as goal

pub offset_bounds-counts-target : goal.offset_bounds-counts-target
offset_bounds-counts-target c =
    let fits = c.requires.within _ (IsIn-at c.args.targets.now c.loop-target.target-index c.loop-target-test.true) in
    omega (arith, fits)
