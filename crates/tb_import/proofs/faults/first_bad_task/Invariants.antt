use Rattle.std.proofs.Common.{◌≡◌, drop}
use Rattle.tb_import.specs.Refusal.{bad_task}
use Rattle.tb_import.proofs.faults.first_bad_task.Given as goal

-- none of the tasks before has a fault
abbrev pub invariant-loop-at : goal.invariant-loop-at
invariant-loop-at l = bad_task l.at (drop l.at l.list) ≡ bad_task 0 l.list
