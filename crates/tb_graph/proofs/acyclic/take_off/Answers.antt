use Rattle.std.proofs.Common.{◌≡◌, ◌∷◌, [], length, arith, subst, sym, ap, inl, refl, length-append}
use Rattle.tb_graph.specs.Walk.{IsIn}
use Rattle.tb_graph.proofs.Lists.{IsIn-right}
use Rattle.tb_graph.proofs.Taking.{Taking, enough, links_taken, taken_twice, taken_step, taking_begins, taking_ends}
use Rattle.tb_graph.proofs.acyclic.take_off.Goals as goal

pub loop-node-init : goal.loop-node-init
loop-node-init c =
    taking_begins c.args.targets.now c.args.counts.now c.args.taken.now c.in_ok-work.work.items c.requires.counts c.requires.blank
    (λ v. (c.in_ok-work.ensures v).0)
    (λ v fits none. (c.in_ok-work.ensures v).1 (fits, none))

pub bounds-taken-node : goal.bounds-taken-node
bounds-taken-node c =
    let fits = c.loop-node.invariant.nodes c.in-Some.node (subst (IsIn c.in-Some.node) (sym c.in-Some.ensures.items) (IsIn-right c.in-Some.node c.pop.new.self.items (c.in-Some.node ∷ []) (inl refl))) in
    omega (arith, fits, c.loop-node.invariant.size)

pub bounds-taken-node-then-not-taken-node : goal.bounds-taken-node-then-not-taken-node
bounds-taken-node-then-not-taken-node c =
    let fits = c.loop-node.invariant.nodes c.in-Some.node (subst (IsIn c.in-Some.node) (sym c.in-Some.ensures.items) (IsIn-right c.in-Some.node c.pop.new.self.items (c.in-Some.node ∷ []) (inl refl))) in
    omega (arith, fits, c.loop-node.invariant.size)

pub targets_of-requires : goal.targets_of-requires
targets_of-requires c =
    c.loop-node.invariant.nodes c.in-Some.node (subst (IsIn c.in-Some.node) (sym c.in-Some.ensures.items) (IsIn-right c.in-Some.node c.pop.new.self.items (c.in-Some.node ∷ []) (inl refl)))

pub take_links-requires-clause-within : goal.take_links-requires-clause-within
take_links-requires-clause-within c t link =
    let fits = c.requires.well_formed c.in-Some.node t (subst (IsIn t) c.targets_of.ensures link) in
    omega (arith, fits, c.loop-node.invariant.counts_size)

pub take_links-requires-clause-enough : goal.take_links-requires-clause-enough
take_links-requires-clause-enough c =
    rw c.targets_of.ensures
    (enough c.args.targets.now c.loop-node.counts c.loop-node.taken c.loop-node.work.items c.in-Some.node c.requires.well_formed c.loop-node.invariant
    (c.loop-node.invariant.nodes c.in-Some.node (subst (IsIn c.in-Some.node) (sym c.in-Some.ensures.items) (IsIn-right c.in-Some.node c.pop.new.self.items (c.in-Some.node ∷ []) (inl refl))))
    c.if-not-taken-node.true)

pub loop-node-smaller-in-Continue-branch-2 : goal.loop-node-smaller-in-Continue-branch-2
loop-node-smaller-in-Continue-branch-2 c =
    let links = links_taken c.args.targets.now c.loop-node.counts c.loop-node.taken c.pop.new.self.items c.in-Some.node c.targets_of.result.now
    c.take_links.new.counts c.take_links.new.work.items c.requires.well_formed
    (subst (Taking c.args.targets.now c.loop-node.counts c.loop-node.taken) c.in-Some.ensures.items c.loop-node.invariant)
    c.if-not-taken-node.true c.targets_of.ensures c.in_ok-take_links.ensures.counts c.in_ok-take_links.ensures.work in
    omega (arith, links.total, ap length c.in-Some.ensures.items, length-append c.pop.new.self.items (c.in-Some.node ∷ []))

pub loop-node-preserved-in-Continue-branch-2 : goal.loop-node-preserved-in-Continue-branch-2
loop-node-preserved-in-Continue-branch-2 c =
    let before = subst (Taking c.args.targets.now c.loop-node.counts c.loop-node.taken) c.in-Some.ensures.items c.loop-node.invariant in
    taken_step c.args.targets.now c.loop-node.counts c.loop-node.taken c.pop.new.self.items c.in-Some.node
    c.take_links.new.counts c.take_links.new.work.items before c.if-not-taken-node.true
    (links_taken c.args.targets.now c.loop-node.counts c.loop-node.taken c.pop.new.self.items c.in-Some.node c.targets_of.result.now
    c.take_links.new.counts c.take_links.new.work.items c.requires.well_formed before
    c.if-not-taken-node.true c.targets_of.ensures c.in_ok-take_links.ensures.counts c.in_ok-take_links.ensures.work)

pub loop-node-preserved : goal.loop-node-preserved
loop-node-preserved c =
    taken_twice c.args.targets.now c.loop-node.counts c.loop-node.taken c.pop.new.self.items c.in-Some.node
    (subst (Taking c.args.targets.now c.loop-node.counts c.loop-node.taken) c.in-Some.ensures.items c.loop-node.invariant)
    c.if-not-taken-node.false

pub returns : goal.returns
returns c =
    let none : length c.loop-node.work.items ≡ 0 = omega (arith, c.in_default.ensures.cases.0) in
    taking_ends c.args.targets.now c.loop-node.counts c.loop-node.taken c.loop-node.work.items none c.loop-node.invariant
