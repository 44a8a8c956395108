use Rattle.std.proofs.Common.{add-one, rules}
use Rattle.tb_json.proofs.WriteSteps.{annotations-more, annotations-done}
use Rattle.tb_json.proofs.values.annotation_values.Goals as goal

pub loop-annotation-preserved : goal.loop-annotation-preserved
loop-annotation-preserved c =
    rw (c.in_ok-push.ensures.items, add-one)
    (annotations-more c.loop-annotation.list.items _ c.args.annotations.now c.loop-annotation.annotation-index c.annotation-item.result _ (search rules) (search rules) (search rules) c.loop-annotation.invariant)

pub returns : goal.returns
returns c = annotations-done c.loop-annotation.list.items c.args.annotations.now c.loop-annotation.annotation-index _ (search rules) c.loop-annotation.invariant
