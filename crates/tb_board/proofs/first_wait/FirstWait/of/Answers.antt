use Rattle.std.proofs.Common.{sym, ap, ◌∙◌, ◌||◌, ◌<◌, length, take, arith}
use Rattle.std.specs.List.{list_any}
use Rattle.std.proofs.lemmas.List.Folds.{list_any_more}
use Rattle.tb_task.specs.declared.task.Task.{Task}
use Rattle.tb_board.specs.Tasks.{wakes}
use Rattle.tb_board.proofs.first_wait.FirstWait.of.Goals as goal

pub loop-task-preserved : goal.loop-task-preserved
loop-task-preserved c = λ m.
    let tasks = c.args.tasks.now in
    let i = c.loop-task.task-index in
    let t = c.get.result.now in
    let within : i < length tasks = omega arith in
    c.with-first.ensures m ∙ ap (λ b. b || wakes m t) (c.loop-task.invariant m)
    ∙ ap (λ (x : Task). list_any (wakes m) (take i tasks) || wakes m x) (c.get.ensures ∙ c.task-item.is)
    ∙ sym (list_any_more (wakes m) tasks i c.task-item.result within)
