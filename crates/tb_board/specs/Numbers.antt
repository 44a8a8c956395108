-- Identifiers that a board makes.
use Rattle.std.specs.Prelude.{ℕ, zero, suc, ◌+◌, if◌then◌else◌, length}
use Rattle.tb_task.specs.TaskId.{made}
use Rattle.tb_board.specs.declared.board.Board.{Board}
use Rattle.tb_board.specs.Board.{is_on}

-- the first number from n on whose identifier isn't on the board, in so many steps
abbrev pub first_free : Board → ℕ → ℕ → ℕ
first_free b n zero = n
first_free b n (suc steps) = if is_on b (made b.number n) then first_free b (n + 1) steps else n

-- the least number from 1 whose identifier isn't on the board; as many steps as the board has tasks are enough
-- Rule: a new task takes the least number that is free. Tried by number_used_by_hand.
unfoldable pub free : Board → ℕ
free b = first_free b 1 (length b.tasks)

abbrev pub free_id : Board → ℕ
free_id b = made b.number (free b)
