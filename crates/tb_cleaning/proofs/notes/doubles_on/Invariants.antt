use Rattle.std.proofs.Common.{◌≡◌, [], drop, map}
use Rattle.tb_cleaning.specs.Entries.{seen}
use Rattle.tb_cleaning.specs.Notes.{doubles_on}
use Rattle.tb_cleaning.proofs.notes.doubles_on.Given as goal

abbrev pub invariant-loop-entry : goal.invariant-loop-entry
invariant-loop-entry l = doubles_on l.found (map seen (drop l.entry-index l.entries)) ≡ doubles_on [] (map seen l.entries)
