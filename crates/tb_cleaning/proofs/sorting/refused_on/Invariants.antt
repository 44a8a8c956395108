use Rattle.std.proofs.Common.{◌≡◌, [], drop, map}
use Rattle.tb_cleaning.specs.Entries.{seen}
use Rattle.tb_cleaning.specs.Sorting.{refused_on}
use Rattle.tb_cleaning.proofs.sorting.refused_on.Given as goal

abbrev pub invariant-loop-entry : goal.invariant-loop-entry
invariant-loop-entry l = refused_on l.found (map seen (drop l.entry-index l.entries)) ≡ refused_on [] (map seen l.entries)
