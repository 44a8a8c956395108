use Rattle.std.proofs.Common.{map}
use Rattle.tb_core.proofs.Importing.{IsFoundTo}
use Rattle.tb_core.proofs.import_todo.new_tasks.Given as goal

abbrev pub invariant-loop-task : goal.invariant-loop-task
invariant-loop-task l = IsFoundTo l.before l.tasks (map (λ task. task.now) l.new.items) l.known l.task-index
