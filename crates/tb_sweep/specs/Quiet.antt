-- Boards on which nothing comes up by itself.
use Rattle.std.specs.Prelude.{◌≡◌, ℕ, Bool, false, Option, Some, None, slice_get}
use Rattle.std.specs.List.{list_any}
use Rattle.tb_task.specs.declared.task.Task.{Task}
use Rattle.tb_board.specs.declared.board.Board.{Board}
use Rattle.tb_board.specs.Tasks.{wakes}
use Rattle.tb_sweep.specs.Sweeping.{lacks, more}

-- no task wakes at m, and no template lacks an instance
pub record IsQuiet (m : ℕ) (b : Board) : Type 0 where
  pub awake : list_any (wakes m) b.tasks ≡ false
  pub settled : more b m ≡ false

abbrev pub is_one : (Task → Bool) → Option Task → Bool
is_one test None = false
is_one test (Some t) = test t

-- a template stands at the place, and lacks an instance
abbrev pub lacks_at : Board → ℕ → ℕ → Bool
lacks_at b m place = is_one (lacks b m) (slice_get b.tasks place)
