-- The masks of the rows of a board's tasks.
use Rattle.std.proofs.Common.{◌≡◌, ℕ, ◌+◌, List, [], ◌∷◌, map, refl, ap}
use Rattle.tb_task.specs.declared.task.Task.{Task}
use Rattle.tb_board.specs.declared.board.Board.{Board}
use Rattle.tb_rows.specs.Rows.{rows_from, task_row, board_tasks, mask_cell}
use Rattle.tb_rows.specs.AsStored.{masks_of}

masks_from : (b : Board) (n : ℕ) (ts : List Task) → masks_of (rows_from (λ place t. task_row b place t ∷ []) n ts) ≡ map (mask_cell b) ts
masks_from b n [] = refl
masks_from b n (t ∷ ts) = ap (λ l. mask_cell b t ∷ l) (masks_from b (n + 1) ts)

pub masks_are : (b : Board) → masks_of (board_tasks b) ≡ map (mask_cell b) b.tasks
masks_are b = masks_from b 1 b.tasks
