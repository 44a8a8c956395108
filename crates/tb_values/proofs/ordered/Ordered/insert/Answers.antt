use Rattle.std.proofs.Common.{◌≡◌, ◌∙◌, ap, sym, subst, arith, set}
use Rattle.std.proofs.lemmas.Bool.{both_ways}
use Rattle.std.specs.BTreeSet.{replace_key}
use Rattle.std.specs.List.Sorted.{IsStrictlySortedBy}
use Rattle.tb_values.proofs.Places.{hit, miss, replaced_when, inserted_when, sorted-replaced, place-le-length}
use Rattle.tb_values.proofs.ordered.Ordered.insert.Given.{Over}
use Rattle.tb_values.proofs.ordered.Ordered.insert.Goals as goal

replaced : (g : Over) (c : goal.After-drop-index_mut g) → set c.self.inside.items.items c.place_of-place.result c.args.item ≡ replace_key g.T.Keyed.order c.self.inside.items.items c.args.item
replaced g c =
    replaced_when g.T.Keyed.order c.args.item c.self.inside.items.items c.place_of-place.result
    (hit g.T.Keyed.order c.args.item c.self.inside.items.items c.as_slice.result.now c.as_slice-2.result.now c.place_of-place.result
    c.as_slice.ensures.value c.as_slice-2.ensures.value c.place_of-place.ensures (c.is_key_at.ensures.0 c.if-is_key_at.true))

pub invariant_of-self : goal.invariant_of-self
invariant_of-self g c =
    subst (IsStrictlySortedBy g.T.Keyed.order) (sym (replaced g c)) (sorted-replaced g.T.Keyed.order g.met.T.Keyed.total c.args.item c.self.inside.items.items c.self.invariant)

pub insert-requires : goal.insert-requires
insert-requires g c =
    let long = c.as_slice.ensures.len in
    omega (arith, c.place_of-place.ensures, place-le-length g.T.Keyed.order c.args.item c.as_slice.result.now)

inserted : (g : Over) (c : goal.In_ok-insert g) → c.insert.new.self.items ≡ replace_key g.T.Keyed.order c.self.inside.items.items c.args.item
inserted g c =
    c.in_ok-insert.ensures.items
    ∙ inserted_when g.T.Keyed.order c.args.item c.self.inside.items.items c.place_of-place.result
    (miss g.T.Keyed.order c.args.item c.self.inside.items.items c.as_slice.result.now c.as_slice-2.result.now c.place_of-place.result
    c.as_slice.ensures.value c.as_slice-2.ensures.value c.place_of-place.ensures (λ both. both_ways _ c.if-is_key_at.false (c.is_key_at.ensures.1 both)))

pub invariant_of-self-in-Continue-1 : goal.invariant_of-self-in-Continue-1
invariant_of-self-in-Continue-1 g c =
    subst (IsStrictlySortedBy g.T.Keyed.order) (sym (inserted g c)) (sorted-replaced g.T.Keyed.order g.met.T.Keyed.total c.args.item c.self.inside.items.items c.self.invariant)

pub returns-then-is_key_at-clause-ok : goal.returns-then-is_key_at-clause-ok
returns-then-is_key_at-clause-ok g c = replaced g c ∙ ap (λ xs. replace_key g.T.Keyed.order xs c.args.item) c.self.view_is

pub returns-in_ok-insert-clause-ok : goal.returns-in_ok-insert-clause-ok
returns-in_ok-insert-clause-ok g c = inserted g c ∙ ap (λ xs. replace_key g.T.Keyed.order xs c.args.item) c.self.view_is
