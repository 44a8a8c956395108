use Rattle.std.proofs.Common.{◌≡◌, ◌∙◌, ap, sym, subst, false}
use Rattle.std.proofs.lemmas.Bool.{both_ways}
use Rattle.std.specs.BTreeMap.{is_at}
use Rattle.std.specs.List.{AllByRecursion, find}
use Rattle.std.specs.List.Sorted.{IsStrictlySortedBy}
use Rattle.std.specs.Set.{remove_key}
use Rattle.tb_values.proofs.Places.{IsHit, hit, miss, removed_when, found_when, none_at, none_found, none_removed, sorted-removed}
use Rattle.tb_values.proofs.ordered.Ordered.remove.Given.{Over}
use Rattle.tb_values.proofs.ordered.Ordered.remove.Goals as goal

none : (g : Over) (c : goal.Then-not-is_key_at g) → AllByRecursion (λ x. is_at (g.T.Keyed.order c.args.item.now) x ≡ false) c.self.inside.items.items
none g c =
    none_at g.T.Keyed.order g.met.T.Keyed.total c.args.item.now c.self.inside.items.items c.self.invariant
    (miss g.T.Keyed.order c.args.item.now c.self.inside.items.items c.as_slice.result.now c.as_slice-2.result.now c.place_of-place.result
    c.as_slice.ensures.value c.as_slice-2.ensures.value c.place_of-place.ensures (λ both. both_ways _ c.if-not-is_key_at.true (c.is_key_at.ensures.1 both))).other

pub returns-then-not-is_key_at-clause-result_is : goal.returns-then-not-is_key_at-clause-result_is
returns-then-not-is_key_at-clause-result_is g c = sym (none_found g.T.Keyed.order c.args.item.now c.self.inside.items.items (none g c)) ∙ ap (find (is_at (g.T.Keyed.order c.args.item.now))) c.self.view_is

pub returns-then-not-is_key_at-clause-rest : goal.returns-then-not-is_key_at-clause-rest
returns-then-not-is_key_at-clause-rest g c =
    sym c.self.view_is ∙ sym (none_removed g.T.Keyed.order c.args.item.now c.self.inside.items.items (none g c)) ∙ ap (remove_key (is_at (g.T.Keyed.order c.args.item.now))) c.self.view_is

found : (g : Over) (c : goal.After-remove g) → IsHit g.T.Keyed.order c.args.item.now c.self.inside.items.items c.place_of-place.result
found g c =
    hit g.T.Keyed.order c.args.item.now c.self.inside.items.items c.as_slice.result.now c.as_slice-2.result.now c.place_of-place.result
    c.as_slice.ensures.value c.as_slice-2.ensures.value c.place_of-place.ensures (c.is_key_at.ensures.0 c.if-not-is_key_at.false)

rest : (g : Over) (c : goal.After-remove g) → c.remove.new.self.items ≡ remove_key (is_at (g.T.Keyed.order c.args.item.now)) c.self.inside.items.items
rest g c = c.remove.ensures.items ∙ removed_when g.T.Keyed.order c.args.item.now c.self.inside.items.items c.place_of-place.result (found g c)

pub invariant_of-self : goal.invariant_of-self
invariant_of-self g c =
    subst (IsStrictlySortedBy g.T.Keyed.order) (sym (rest g c))
    (sorted-removed g.T.Keyed.order g.met.T.Keyed.total (is_at (g.T.Keyed.order c.args.item.now)) c.self.inside.items.items c.self.invariant)

pub returns-clause-result_is : goal.returns-clause-result_is
returns-clause-result_is g c =
    found_when g.T.Keyed.order c.args.item.now c.self.inside.items.items c.place_of-place.result (found g c) c.remove.result c.remove.ensures.value
    ∙ ap (find (is_at (g.T.Keyed.order c.args.item.now))) c.self.view_is

pub returns-clause-rest : goal.returns-clause-rest
returns-clause-rest g c = rest g c ∙ ap (remove_key (is_at (g.T.Keyed.order c.args.item.now))) c.self.view_is
