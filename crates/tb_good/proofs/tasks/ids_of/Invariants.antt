use Rattle.std.proofs.Common.{◌≡◌, take}
use Rattle.tb_board.specs.Tasks.{ids}
use Rattle.tb_good.proofs.tasks.ids_of.Given as goal

abbrev pub invariant-loop-task : goal.invariant-loop-task
invariant-loop-task l = l.all.items ≡ ids (take l.task-index l.tasks)
