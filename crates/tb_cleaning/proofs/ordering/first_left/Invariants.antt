use Rattle.std.proofs.Common.{◌≡◌, drop, map, not}
use Rattle.tb_cleaning.specs.Ordering.{left_from}
use Rattle.tb_cleaning.proofs.ordering.first_left.Given as goal

abbrev pub invariant-loop-place : goal.invariant-loop-place
invariant-loop-place l = left_from l.done l.place (map not (drop l.place l.done)) ≡ left_from l.done 0 (map not l.done)
