use Rattle.std.proofs.Common.{◌≡◌, map, take}
use Rattle.tb_cleaning.specs.Entries.{seen}
use Rattle.tb_cleaning.specs.Places.{depends_of}
use Rattle.tb_cleaning.proofs.places.all_depends.Given as goal

abbrev pub invariant-loop-entry : goal.invariant-loop-entry
invariant-loop-entry l = l.links.items ≡ map (depends_of l.ids) (map seen (take l.entry-index l.entries))
