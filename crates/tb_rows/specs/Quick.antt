-- The changes of rows of a board on which one plain task is put, by the board before it alone.
use Rattle.std.specs.Prelude.{◌≡◌, ℕ, Bool, not, ◌&&◌, List, [], ◌∷◌, Some, is_some}
use Rattle.tb_task.specs.declared.task.Task.{Task}
use Rattle.tb_board.specs.declared.board.Board.{Board}
use Rattle.tb_board.specs.declared.change.Change.{Change}
use Rattle.tb_board.specs.declared.change.Change.TheVariants.{PutTask}
use Rattle.tb_sql.specs.declared.changes.RowChange.{RowChange}
use Rattle.tb_rows.specs.Part.{part_after, rows_of_part}

-- neither an instance nor a template
abbrev pub is_plain : Task → Bool
is_plain t = not (is_some t.parent) && not (is_some t.recur)

-- the rows of the part by the board before and after the changes, whatever the number of people
abbrev pub AreAllRows : Board → List Change → List RowChange → Type 0
AreAllRows b cs rows = (people : ℕ) → rows ≡ rows_of_part people (Some (part_after cs b)) cs

-- those of this task at this place
abbrev pub ArePutRows : Board → ℕ → Task → List RowChange → Type 0
ArePutRows b place t rows = AreAllRows b (PutTask b.number place t ∷ []) rows
