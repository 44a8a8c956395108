use Rattle.std.proofs.Common.{◌≡◌, length, ap, subst, ◌∙◌, arith}
use Rattle.tb_graph.specs.Walk.{IsIn}
use Rattle.tb_graph.specs.Taking.{counts_with}
use Rattle.tb_graph.proofs.Counting.{none_counted, next_counted, all_counted}
use Rattle.tb_graph.proofs.acyclic.count_sources.Goals as goal

pub loop-node-init : goal.loop-node-init
loop-node-init c = none_counted c.args.targets.now c.args.counts.now c.requires.blank

pub count_targets-requires : goal.count_targets-requires
count_targets-requires c t link =
    let fits = c.requires.well_formed c.loop-node.node t (subst (IsIn t) c.targets_of.ensures link) in
    omega (arith, fits, c.loop-node.invariant.size)

pub loop-node-preserved : goal.loop-node-preserved
loop-node-preserved c =
    next_counted c.args.targets.now c.loop-node.node c.loop-node.counts c.count_targets.new.counts c.requires.well_formed c.loop-node-test.true
    c.loop-node.invariant
    (c.in_ok-count_targets.ensures ∙ ap (counts_with c.loop-node.counts) c.targets_of.ensures)

pub returns : goal.returns
returns c =
    let end : c.loop-node.node ≡ length c.args.targets.now = omega (arith, c.loop-node-test.false, c.loop-node.auto.node-end) in
    all_counted c.args.targets.now c.loop-node.node c.loop-node.counts end c.loop-node.invariant
