use Rattle.std.proofs.Common.{add-one, rules}
use Rattle.tb_json.proofs.WriteSteps.{ids-more, ids-done}
use Rattle.tb_json.proofs.values.id_values.Goals as goal

pub loop-id-preserved : goal.loop-id-preserved
loop-id-preserved c =
    rw (c.in_ok-push.ensures.items, add-one)
    (ids-more c.loop-id.list.items _ c.args.ids.now c.loop-id.id-index c.id-item.result _ (search rules) (search rules) (search rules) c.loop-id.invariant)

pub returns : goal.returns
returns c = ids-done c.loop-id.list.items c.args.ids.now c.loop-id.id-index _ (search rules) c.loop-id.invariant
