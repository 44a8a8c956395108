use Rattle.std.proofs.Common.{◌≡◌, drop}
use Rattle.tb_my.specs.Telling.{number_of_task}
use Rattle.tb_my.proofs.telling.number_of_task.Given as goal

abbrev pub invariant-loop-index : goal.invariant-loop-index
invariant-loop-index l = number_of_task l.index l.id (drop l.index l.tasks) ≡ number_of_task 0 l.id l.tasks
