use Rattle.std.proofs.Common.{◌≡◌, ℕ, take}
use Rattle.std.specs.List.{list_any}
use Rattle.tb_board.specs.Tasks.{wakes}
use Rattle.tb_board.specs.FirstWait.{may_wake}
use Rattle.tb_board.proofs.first_wait.FirstWait.of.Given as goal

abbrev pub invariant-loop-task : goal.invariant-loop-task
invariant-loop-task l = (m : ℕ) → may_wake m l.first ≡ list_any (wakes m) (take l.task-index l.tasks)
