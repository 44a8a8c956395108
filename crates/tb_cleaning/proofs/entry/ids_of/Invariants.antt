use Rattle.std.proofs.Common.{◌≡◌, map, take}
use Rattle.tb_cleaning.specs.Entries.{id_of, seen}
use Rattle.tb_cleaning.proofs.entry.ids_of.Given as goal

abbrev pub invariant-loop-entry : goal.invariant-loop-entry
invariant-loop-entry l = l.ids.items ≡ map id_of (map seen (take l.entry-index l.entries))
