-- When the rows of a board are those that it has.
use Rattle.std.specs.Prelude.{◌≡◌, ℕ, List, Option, Some, map, IsPermutation}
use Rattle.tb_board.specs.declared.board.Board.{Board}
use Rattle.tb_sql_tables.specs.declared.rows.BoardRow.{BoardRow}
use Rattle.tb_sql_tables.specs.declared.rows.HorizonRow.{HorizonRow}
use Rattle.tb_sql_tables.specs.declared.rows.TaskRow.{TaskRow}
use Rattle.tb_sql_tables.specs.declared.rows.LinkRow.{LinkRow}
use Rattle.tb_sql_tables.specs.declared.rows.InstanceRow.{InstanceRow}
use Rattle.tb_rows.specs.Rows.{board_row, horizon_row, board_tasks, board_links, board_instances}

abbrev pub masks_of : List TaskRow → List (Option (List ℕ))
masks_of rows = map (λ (row : TaskRow). row.mask) rows

-- the board has this row, and this for how far ahead it looks, its tasks in order of place these masks, and it has these links and these instances, in any order
-- Rule: check compares the rows of each board with its tasks. Tried by audit_finds.
pub record AreAsStored (b : Board) (row : BoardRow) (horizon : Option HorizonRow)
    (tasks : List TaskRow) (links : List LinkRow) (instances : List InstanceRow) : Type 0 where
  pub row_is : row ≡ board_row b
  pub horizon_is : horizon ≡ Some (horizon_row b)
  pub masks : masks_of tasks ≡ masks_of (board_tasks b)
  pub links_are : IsPermutation links (board_links b)
  pub instances_are : IsPermutation instances (board_instances b)
