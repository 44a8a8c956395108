use Rattle.std.proofs.Common.{◌≡◌, [], map, drop}
use Rattle.serde_json.specs.View.{view}
use Rattle.tb_json.specs.Import.{tasks_of}
use Rattle.tb_json.proofs.import.tasks_of.Given as goal

abbrev pub invariant-loop-item : goal.invariant-loop-item
invariant-loop-item l = tasks_of l.moment l.tasks (map view (drop l.item-index l.items)) ≡ tasks_of l.moment [] (map view l.items)
