use Rattle.std.proofs.Common.{◌≡◌, ◌+◌, ℕ, min, length, drop}
use Rattle.tb_board.specs.InstancePlaces.{instance_places}
use Rattle.tb_sweep.specs.Counts.{number_at}
use Rattle.tb_sweep.proofs.counts.Counts.add_instances.Given as goal

-- those counted and those that are left are all
abbrev pub invariant-loop-task : goal.invariant-loop-task
invariant-loop-task l =
    (q : ℕ) → min 2932898 (number_at l.self q + length (instance_places q (drop l.task-index l.tasks))) ≡ min 2932898 (number_at l.fn.self q + length (instance_places q l.tasks))
