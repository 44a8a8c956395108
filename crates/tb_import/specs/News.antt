-- Which tasks of a list are new to a board.
use Rattle.std.specs.Prelude.{ℕ, ◌==◌, ◌||◌, Bool, List, [], ◌∷◌, ◌++◌, if◌then◌else◌}
use Rattle.std.specs.List.{list_any}
use Rattle.tb_task.specs.declared.incoming.Incoming.{Incoming}
use Rattle.tb_board.specs.declared.board.Board.{Board}
use Rattle.tb_board.specs.Board.{is_on}

abbrev pub has_own_id : ℕ → Incoming → Bool
has_own_id id i = i.task.id == id

-- on the board, or among these tasks
abbrev pub is_there : Board → List Incoming → ℕ → Bool
is_there b is id = is_on b id || list_any (has_own_id id) is

-- the new tasks found so far, and those of the rest: one that is there already is known
abbrev pub found_new : Board → List Incoming → List Incoming → List Incoming
found_new b found [] = found
found_new b found (i ∷ is) = if is_there b found i.task.id then found_new b found is
    else found_new b (found ++ i ∷ []) is

-- the tasks that are neither on the board nor earlier in the list
-- Rule: a task that is there already stays as it is. Tried by import_that_comes_twice.
abbrev pub new_tasks : Board → List Incoming → List Incoming
new_tasks b is = found_new b [] is
