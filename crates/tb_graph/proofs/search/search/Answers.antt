use Rattle.std.proofs.Common.{◌≡◌, ◌∷◌, [], length, arith, subst, sym, ap, inl, refl, length-append}
use Rattle.tb_graph.specs.Walk.{IsIn}
use Rattle.tb_graph.proofs.Growing.{Grows, grows}
use Rattle.tb_graph.proofs.Lists.{IsIn-right}
use Rattle.tb_graph.proofs.Searching.{Searched, search_begin, search_step, search_end, no_work}
use Rattle.tb_graph.proofs.search.search.Goals as goal

pub loop-node-init : goal.loop-node-init
loop-node-init c =
    subst (λ ws. Searched c.args.targets.now c.args.from c.args.marks.now ws) (sym c.in_ok-work.ensures.items)
    (search_begin c.args.targets.now c.args.from (length c.args.targets.now) c.args.marks.now refl c.requires.from c.requires.blank)

pub targets_of-requires : goal.targets_of-requires
targets_of-requires c =
    c.loop-node.invariant.nodes c.in-Some.node (subst (IsIn c.in-Some.node) (sym c.in-Some.ensures.items) (IsIn-right c.in-Some.node c.pop.new.self.items (c.in-Some.node ∷ []) (inl refl)))

pub mark_targets-requires : goal.mark_targets-requires
mark_targets-requires c t link =
    let fits = c.requires.well_formed c.in-Some.node t (subst (IsIn t) c.targets_of.ensures link) in
    omega (arith, fits, c.loop-node.invariant.size)

pub loop-node-smaller : goal.loop-node-smaller
loop-node-smaller c =
    let g : Grows c.loop-node.marks c.pop.new.self.items c.targets_of.result.now c.mark_targets.new.marks c.mark_targets.new.work.items
    = rw (c.in_ok-mark_targets.ensures.marks, c.in_ok-mark_targets.ensures.work) (grows c.loop-node.marks c.pop.new.self.items c.targets_of.result.now (λ t link. let fits = c.requires.well_formed c.in-Some.node t (subst (IsIn t) c.targets_of.ensures link) in omega (arith, fits, c.loop-node.invariant.size))) in
    omega (arith, g.total, ap length c.in-Some.ensures.items, length-append c.pop.new.self.items (c.in-Some.node ∷ []))

pub loop-node-preserved : goal.loop-node-preserved
loop-node-preserved c =
    let g : Grows c.loop-node.marks c.pop.new.self.items c.targets_of.result.now c.mark_targets.new.marks c.mark_targets.new.work.items
    = rw (c.in_ok-mark_targets.ensures.marks, c.in_ok-mark_targets.ensures.work) (grows c.loop-node.marks c.pop.new.self.items c.targets_of.result.now (λ t link. let fits = c.requires.well_formed c.in-Some.node t (subst (IsIn t) c.targets_of.ensures link) in omega (arith, fits, c.loop-node.invariant.size))) in
    search_step c.args.targets.now c.args.from c.loop-node.marks c.pop.new.self.items c.in-Some.node c.mark_targets.new.marks c.mark_targets.new.work.items
    c.requires.well_formed
    (subst (λ ws. Searched c.args.targets.now c.args.from c.loop-node.marks ws) c.in-Some.ensures.items c.loop-node.invariant)
    (subst (λ ts. Grows c.loop-node.marks c.pop.new.self.items ts c.mark_targets.new.marks c.mark_targets.new.work.items) c.targets_of.ensures g)

pub returns : goal.returns
returns c =
    let none : length c.loop-node.work.items ≡ 0 = omega (arith, c.in_default.ensures.cases.0) in
    search_end c.args.targets.now c.args.from c.loop-node.marks
    (no_work c.args.targets.now c.args.from c.loop-node.marks c.loop-node.work.items none c.loop-node.invariant)
