use Rattle.std.proofs.Common.{◌≡◌, map, take}
use Rattle.serde_json.specs.View.{view}
use Rattle.tb_cleaning.specs.Cleaning.{items_in}
use Rattle.tb_cleaning.specs.Entries.{seen}
use Rattle.tb_cleaning.proofs.text.values_of.Given as goal

abbrev pub invariant-loop-entry : goal.invariant-loop-entry
invariant-loop-entry l = map view l.values.items ≡ items_in (map (λ e. seen e.now) (take l.entry-index l.entries))
