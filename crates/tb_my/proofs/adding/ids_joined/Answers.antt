use Rattle.std.proofs.Common.{◌≡◌, ◌++◌, ◌<◌, length, refl, arith, rules}
use Rattle.tb_my.proofs.Loops.{one_more}
use Rattle.tb_my.specs.Adding.{comma_and_id, further_ids, ids_joined}
use Rattle.tb_my.proofs.adding.ids_joined.Goals as goal

pub loop-task-preserved : goal.loop-task-preserved
loop-task-preserved c =
    let more = c.args.more.now in
    let task = c.task-item.result in
    let within : c.loop-task.task-index < length more = omega arith in
    let put : c.push_id.new.text ≡ c.loop-task.text ++ comma_and_id task = search rules in
    one_more further_ids more c.loop-task.task-index task (comma_and_id task) c.loop-task.text c.push_id.new.text (ids_joined c.args.first.now more)
    within c.task-item.is refl put c.loop-task.invariant
