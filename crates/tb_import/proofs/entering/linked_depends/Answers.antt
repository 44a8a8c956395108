use Rattle.std.proofs.Common.{◌≡◌, ◌∙◌, ap, arith, filter, nat_cmp, subst, sym}
use Rattle.std.proofs.lemmas.List.{take_all}
use Rattle.std.proofs.lemmas.List.Kept.{IsStrictlySortedBy-filter}
use Rattle.std.specs.List.Sorted.{IsStrictlySortedBy}
use Rattle.tb_import.specs.Sets.{has}
use Rattle.tb_import.proofs.entering.linked_depends.Goals as goal

pub from_increasing-requires : goal.from_increasing-requires
from_increasing-requires c =
    let items = c.as_slice-id-items.result.now in
    let whole : c.loop-id.kept ≡ filter (has c.args.ids.now) c.args.depends.now =
    c.loop-id.invariant ∙ ap (filter (has c.args.ids.now)) (take_all c.loop-id.id-index items (omega (arith, c.loop-id-test.false))) ∙ ap (filter (has c.args.ids.now)) c.as_slice-id-items.ensures.items in
    subst (IsStrictlySortedBy nat_cmp) (sym whole) (IsStrictlySortedBy-filter nat_cmp (has c.args.ids.now) c.args.depends.now c.as_slice-id-items.ensures.increasing)
