use Rattle.std.proofs.Common.{◌≡◌, drop}
use Rattle.serde_json.specs.View.{items_view}
use Rattle.tb_json.specs.Writing.{items_of_annotations}
use Rattle.tb_json.proofs.WriteSteps.{followed_by}
use Rattle.tb_json.proofs.values.annotation_values.Given as goal

abbrev pub invariant-loop-annotation : goal.invariant-loop-annotation
invariant-loop-annotation l = followed_by (items_view l.list.items) (items_of_annotations (drop l.annotation-index l.annotations)) ≡ items_of_annotations l.annotations
