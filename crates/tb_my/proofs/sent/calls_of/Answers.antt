use Rattle.std.proofs.Common.{◌≡◌, ◌∙◌, ◌∷◌, ◌++◌, [], ◌<◌, length, ap, refl, arith, rules}
use Rattle.tb_my.proofs.Loops.{one_more}
use Rattle.tb_my.specs.Sent.{calls_of, task_call}
use Rattle.tb_my.proofs.sent.calls_of.Goals as goal

pub loop-task-preserved : goal.loop-task-preserved
loop-task-preserved c =
    let name = c.args.name.now in
    let verb = c.args.verb.now in
    let board = c.args.board.now in
    let named = c.args.named.now in
    let task = c.task-item.result in
    let within : c.loop-task.task-index < length named = omega arith in
    let call : c.in_ok-call.call ≡ task_call name verb board task = search rules in
    let put : c.push.new.self ≡ c.loop-task.calls ++ c.in_ok-call.call ∷ [] = search rules in
    one_more (calls_of name verb board) named c.loop-task.task-index task (task_call name verb board task ∷ []) c.loop-task.calls c.push.new.self
    (calls_of name verb board named) within c.task-item.is refl (put ∙ ap (λ sent. c.loop-task.calls ++ sent ∷ []) call) c.loop-task.invariant
