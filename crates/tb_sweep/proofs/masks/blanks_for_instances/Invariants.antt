use Rattle.std.proofs.Common.{◌≡◌, ◌+◌, ℕ, None, length, drop}
use Rattle.tb_sweep.specs.Masks.{noted_at}
use Rattle.tb_board.specs.InstancePlaces.{instance_places}
use Rattle.tb_sweep.proofs.masks.blanks_for_instances.Given as goal

-- the places so far and those that are left are all
abbrev pub invariant-loop-task : goal.invariant-loop-task
invariant-loop-task l =
    record {
      size : length l.marks.items + length (instance_places l.id (drop l.task-index l.tasks)) ≡ length l.fn.marks.items + length (instance_places l.id l.tasks);
      blank : (k : ℕ) → noted_at l.marks.items k ≡ None;
    }
