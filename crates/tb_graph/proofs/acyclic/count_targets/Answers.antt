use Rattle.std.proofs.Common.{arith}
use Rattle.tb_graph.proofs.Lists.{IsIn-at}
use Rattle.tb_graph.proofs.acyclic.count_targets.Goals as goal

pub offset_bounds-counts-target : goal.offset_bounds-counts-target
offset_bounds-counts-target c =
    let fits = c.requires _ (IsIn-at c.args.targets.now c.loop-target.target-index c.loop-target-test.true) in
    omega (arith, fits)

pub bounds-counts-target : goal.bounds-counts-target
bounds-counts-target c =
    let fits = c.requires _ (IsIn-at c.args.targets.now c.loop-target.target-index c.loop-target-test.true) in
    omega (arith, fits)

pub offset_bounds-counts-target-in-Some : goal.offset_bounds-counts-target-in-Some
offset_bounds-counts-target-in-Some c =
    let fits = c.requires _ (IsIn-at c.args.targets.now c.loop-target.target-index c.loop-target-test.true) in
    omega (arith, fits)

pub bounds-counts-target-in-Some : goal.bounds-counts-target-in-Some
bounds-counts-target-in-Some c =
    let fits = c.requires _ (IsIn-at c.args.targets.now c.loop-target.target-index c.loop-target-test.true) in
    omega (arith, fits)
