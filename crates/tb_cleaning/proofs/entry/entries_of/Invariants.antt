use Rattle.std.proofs.Common.{◌≡◌, map, take}
use Rattle.serde_json.specs.View.{view}
use Rattle.tb_cleaning.specs.Entries.{entry_of, seen}
use Rattle.tb_cleaning.proofs.entry.entries_of.Given as goal

abbrev pub invariant-loop-item : goal.invariant-loop-item
invariant-loop-item l = map seen l.entries.items ≡ map entry_of (map view (take l.item-index l.items))
