use Rattle.std.proofs.Common.{subst, sym, length, ◌<◌, inl, inr, []}
use Rattle.std.proofs.lemmas.List.{get_or_read}
use Rattle.tb_graph.specs.Walk.{IsIn}
use Rattle.tb_graph.proofs.WellFormed.{well_formed_add, added}
use Rattle.tb_graph.proofs.links.Links.add.Goals as goal

pub invariant_of-self : goal.invariant_of-self
invariant_of-self c =
    let from : c.args.from < length c.self.inside.targets.items = subst (λ g. c.args.from < length g) (sym c.self.view_is) c.requires.from in
    let to : c.args.to < length c.self.inside.targets.items = subst (λ g. c.args.to < length g) (sym c.self.view_is) c.requires.to in
    let read = get_or_read c.self.inside.targets.items c.args.from c.index_mut.result.now from c.index_mut.ensures.value [] in
    well_formed_add c.self.inside.targets.items c.args.from c.args.to c.push.new.self c.self.invariant from to
    (λ b h. elim (added c.push.result c.index_mut.result.now c.push.new.self c.args.to c.push.ensures.ok c.push.ensures.err b h) [
      | inl before ↦ inl (subst (IsIn b) read before)
      | inr e ↦ inr e
    ])
