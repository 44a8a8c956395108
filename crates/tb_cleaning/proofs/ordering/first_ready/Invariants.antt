use Rattle.std.proofs.Common.{◌≡◌, drop}
use Rattle.tb_cleaning.specs.Ordering.{ready_from}
use Rattle.tb_cleaning.proofs.ordering.first_ready.Given as goal

abbrev pub invariant-loop-place : goal.invariant-loop-place
invariant-loop-place l = ready_from l.done l.place (drop l.place l.waits) ≡ ready_from l.done 0 l.waits
