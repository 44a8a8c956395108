use Rattle.std.proofs.Common.{◌≡◌, [], drop}
use Rattle.serde_json.specs.View.{items_view}
use Rattle.tb_json.specs.Annotations.{annotations_of}
use Rattle.tb_json.proofs.annotations.annotations_of.Given as goal

abbrev pub invariant-loop-item : goal.invariant-loop-item
invariant-loop-item l = annotations_of l.annotations (items_view (drop l.item-index l.list.items)) ≡ annotations_of [] (items_view l.list.items)
