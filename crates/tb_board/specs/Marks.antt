-- Marks of the numbers whose identifiers are on a board.
use Rattle.std.specs.Prelude.{◌^◌, ◌||◌, ◌≡◌, ◌<◌, ◌≤◌, ℕ, Bool, true, false, List, length, slice_index_or}
use Rattle.tb_task.specs.TaskId.{made}
use Rattle.tb_board.specs.declared.board.Board.{Board}
use Rattle.tb_task.specs.declared.task.Task.{Task}
use Rattle.std.specs.List.{list_any}
use Rattle.tb_board.specs.Board.{is_on}
use Rattle.tb_board.specs.Tasks.{has_id}

abbrev pub is_marked : List Bool → ℕ → Bool
is_marked marks n = slice_index_or marks n false

-- all numbers before next are on the board, and from next on those that are marked
pub record Knows (b : Board) (marks : List Bool) (next : ℕ) : Type 0 where
  pub size : length marks ≡ 10001
  pub from : 1 ≤ next
  pub before : (n : ℕ) → 1 ≤ n → n < next → is_on b (made b.number n) ≡ true
  pub after : (n : ℕ) → next ≤ n → n < 10001 → is_marked marks n ≡ is_on b (made b.number n)

-- the first from next on without a mark, or the end of the marks
pub record IsNextFree (marks : List Bool) (next number : ℕ) : Type 0 where
  pub from : next ≤ number
  pub within : number ≤ length marks
  pub passed : (n : ℕ) → next ≤ n → n < number → is_marked marks n ≡ true
  pub vacant : number < length marks → is_marked marks number ≡ false

-- the numbers of which the board makes these tasks' identifiers are marked as well
pub record IsMarkedFor (tasks : List Task) (board : ℕ) (old new : List Bool) : Type 0 where
  pub size : length new ≡ length old
  pub marks : (n : ℕ) → 1 ≤ n → n < length old → n < 2 ^ 48
      → is_marked new n ≡ (is_marked old n || list_any (has_id (made board n)) tasks)
