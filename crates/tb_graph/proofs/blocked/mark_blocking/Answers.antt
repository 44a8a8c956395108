use Rattle.std.proofs.Common.{◌≡◌, ◌≤◌, subst, sym, ◌∙◌, ap, arith, length}
use Rattle.tb_graph.specs.Walk.{IsIn}
use Rattle.tb_graph.proofs.Blocking.{blocking_after}
use Rattle.tb_graph.specs.Blocked.{AreBlocking}
use Rattle.tb_graph.proofs.Blocking.{blocks, blocking}
use Rattle.tb_graph.proofs.blocked.mark_blocking.Goals as goal

pub mark_open-requires : goal.mark_open-requires
mark_open-requires c t among =
    let fits = c.requires.well_formed c.loop-node.node t (subst (IsIn t) c.targets_of.ensures among) in
    let upto : c.loop-node.node ≤ length c.args.targets.now = omega arith in
    let b = blocks c.args.targets.now c.args.open_nodes.now c.args.marks.now c.requires.well_formed c.requires.blank c.loop-node.node upto in
    let same : length c.loop-node.marks ≡ length (blocking_after c.args.targets.now c.args.open_nodes.now c.args.marks.now c.loop-node.node) = ap length c.loop-node.invariant in
    omega (arith, fits, b.size, same)

pub returns : goal.returns
returns c =
    let end : c.loop-node.node ≡ length c.args.targets.now = omega (arith, c.loop-node-test.false, c.loop-node.auto.node-end) in
    let marks = c.loop-node.invariant ∙ ap (blocking_after c.args.targets.now c.args.open_nodes.now c.args.marks.now) end in
    subst (AreBlocking c.args.targets.now c.args.open_nodes.now) (sym marks)
    (blocking c.args.targets.now c.args.open_nodes.now c.args.marks.now c.requires.well_formed c.requires.blank)
