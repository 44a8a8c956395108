use Rattle.std.proofs.Common.{◌≡◌, Some, ap, ◌∙◌, rules}
use Rattle.serde_json.specs.Data.{array}
use Rattle.serde_json.proofs.Views.{view-Array}
use Rattle.tb_json.specs.Writing.{annotations_data, items_of_annotations}
use Rattle.tb_json.proofs.WriteSteps.{annotations_data-filled}
use Rattle.tb_json.proofs.members.put_annotations.Goals as goal

pub returns : goal.returns
returns c =
    let filled : annotations_data c.args.annotations.now ≡ Some (array (items_of_annotations c.args.annotations.now)) = annotations_data-filled c.args.annotations.now (search rules) in
    let made = view-Array c.in_ok-annotation_values.field-0 ∙ ap array c.in_ok-annotation_values.ensures in
    rw filled (rw made at c.put.ensures.ok)
