use Rattle.std.proofs.Common.{◌≡◌, [], map}
use Rattle.std.specs.Vec.Iter.{into_iter_items}
use Rattle.tb_cleaning.specs.Entries.{seen}
use Rattle.tb_cleaning.specs.Sorting.{kept_on}
use Rattle.tb_cleaning.proofs.sorting.kept_on.Given as goal

abbrev pub invariant-loop-entry : goal.invariant-loop-entry
invariant-loop-entry l = kept_on l.ids l.refused (map seen l.found.items) (map seen (into_iter_items l.entry-iterator)) ≡ kept_on l.ids l.refused [] (map seen l.fn.entries.items)
