use Rattle.std.proofs.Common.{◌≡◌, [], drop}
use Rattle.serde_json.specs.View.{items_view}
use Rattle.tb_client.specs.Places.{with_tasks}
use Rattle.tb_client.proofs.places.tasks_of.Given as goal

abbrev pub invariant-loop-item : goal.invariant-loop-item
invariant-loop-item l = with_tasks l.tasks (items_view (drop l.item-index l.list.items)) ≡ with_tasks [] (items_view l.list.items)
