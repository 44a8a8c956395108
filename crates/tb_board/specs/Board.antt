-- A board at a moment.
use Rattle.std.specs.Prelude.{ℕ, Bool, not, List, [], ◌∷◌, ◌++◌, map}
use Rattle.std.specs.List.{list_any}
use Rattle.tb_task.specs.declared.task.Task.{Task}
use Rattle.tb_board.specs.declared.board.Board.{Board}
use Rattle.tb_board.specs.Tasks.{has_id, woken}

-- each task of the board is woken, and nothing else changes
abbrev pub wake : Board → ℕ → Board
wake b m = record b { tasks = map (woken m) b.tasks }

abbrev pub is_on : Board → ℕ → Bool
is_on b id = list_any (has_id id) b.tasks

-- one of the tasks on which it depends isn't on the board
abbrev pub lacks_depends : Board → List ℕ → Bool
lacks_depends b ids = list_any (λ id. not (is_on b id)) ids

-- the board with one more task
abbrev pub with_task : Board → Task → Board
with_task b t = record b { tasks = b.tasks ++ t ∷ [] }
