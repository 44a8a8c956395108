use Rattle.std.proofs.Common.{◌≡◌, ℕ, take}
use Rattle.std.specs.List.{list_any}
use Rattle.tb_board.specs.Tasks.{has_id}
use Rattle.tb_import.specs.Sets.{has}
use Rattle.tb_import.proofs.ids.Ids.on.Given as goal

abbrev pub invariant-loop-task : goal.invariant-loop-task
invariant-loop-task l = (q : ℕ) → has l.ids q ≡ list_any (has_id q) (take l.task-index l.task-items)
