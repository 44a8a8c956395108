-- What is noted of a list of tasks, so that one needn't go through it.
use Rattle.std.specs.Prelude.{◌≡◌, ◌<◌, ◌≤◌, ℕ, true, false, List, is_some}
use Rattle.std.specs.List.{list_any}
use Rattle.tb_task.specs.declared.task.Task.{Task}
use Rattle.tb_task.specs.Checks.{is_recurring}
use Rattle.tb_task.specs.TaskId.{made}
use Rattle.tb_board.specs.Tasks.{ids, ArePlaces, place_in, wakes}
use Rattle.tb_board.specs.FirstWait.{may_wake}
use Rattle.tb_board.specs.TemplateIndex.{IsTemplateIndex}
use Rattle.tb_board.specs.declared.task_index.TaskIndex.{TaskIndex}

-- the identifier that the board makes of a number is among these
abbrev pub IsTaken : List ℕ → ℕ → ℕ → Type 0
IsTaken all board n = is_some (place_in all (made board n)) ≡ true

-- the least number from 1 of which the board's identifier isn't among these
pub record IsLeastFree (all : List ℕ) (board n : ℕ) : Type 0 where
  pub from : 1 ≤ n
  pub taken : (k : ℕ) → 1 ≤ k → k < n → IsTaken all board k
  pub vacant : is_some (place_in all (made board n)) ≡ false

-- the index is of these tasks; where no task may wake, none does
pub record IsIndexOf (ts : List Task) (index : TaskIndex) : Type 0 where
  pub places : ArePlaces (ids ts) index.places
  pub least : IsLeastFree (ids ts) index.board index.least_free
  pub waits : (m : ℕ) → may_wake m index.first_wait ≡ false → list_any (wakes m) ts ≡ false
  pub templates : IsTemplateIndex ts index.templates

-- the new task can take the old one's place in an index
pub record IsLike (old new : Task) : Type 0 where
  pub id : new.id ≡ old.id
  pub parent : new.parent ≡ old.parent
  pub place : new.imask ≡ old.imask
  pub recurs : is_recurring new.status ≡ true → is_recurring old.status ≡ true
