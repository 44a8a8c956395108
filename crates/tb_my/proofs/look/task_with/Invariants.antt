use Rattle.std.proofs.Common.{◌≡◌, drop}
use Rattle.tb_my.specs.Look.{find_id}
use Rattle.tb_my.proofs.look.task_with.Given as goal

abbrev pub invariant-loop-task : goal.invariant-loop-task
invariant-loop-task l = find_id l.id (drop l.task-index l.tasks) ≡ find_id l.id l.tasks
