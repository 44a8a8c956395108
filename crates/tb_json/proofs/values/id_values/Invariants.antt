use Rattle.std.proofs.Common.{◌≡◌, drop}
use Rattle.serde_json.specs.View.{items_view}
use Rattle.tb_json.specs.Writing.{items_of_ids}
use Rattle.tb_json.proofs.WriteSteps.{followed_by}
use Rattle.tb_json.proofs.values.id_values.Given as goal

abbrev pub invariant-loop-id : goal.invariant-loop-id
invariant-loop-id l = followed_by (items_view l.list.items) (items_of_ids (drop l.id-index l.ids)) ≡ items_of_ids l.ids
