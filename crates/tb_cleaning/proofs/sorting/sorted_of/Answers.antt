use Rattle.std.proofs.Common.{◌≡◌, ◌∙◌, IfOk, ap, map, subst}
use Rattle.tb_cleaning.specs.Entries.{id_of, seen}
use Rattle.tb_cleaning.specs.Sorting.{sorted_by}
use Rattle.tb_cleaning.proofs.sorting.sorted_of.Goals as goal

pub returns : goal.returns
returns c =
    let ids : c.in_ok-ids.ids ≡ map id_of (map seen c.args.entries.items) = c.in_ok-ids.ensures ∙ ap (λ es. map id_of (map seen es)) c.as_slice.ensures.value in
    subst (λ is. IfOk c.sorted_by.result (λ sorted. map seen sorted.items ≡ sorted_by is (map seen c.args.entries.items))) ids c.sorted_by.ensures
