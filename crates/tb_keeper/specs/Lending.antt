-- The rows of a board's tasks, as they are lent.
use Rattle.std.specs.Prelude.{ℕ, ◌+◌, Option, Some, None, slice_get}
use Rattle.std.specs.Option.{option_map}
use Rattle.tb_task.specs.declared.task.Task.{Task}
use Rattle.tb_board.specs.declared.board.Board.{Board}
use Rattle.tb_board.specs.declared.world.World.{World}
use Rattle.tb_board.specs.World.{find_board}
use Rattle.tb_rows.specs.Rows.{mask_cell}
use Rattle.tb_keeper.specs.declared.lending.StoredRow.{StoredRow}

-- a task behind n others of its board, with the mask that is stored
abbrev pub lent_row : Board → ℕ → Task → StoredRow
lent_row b n t = record { place = n + 1; task = t; mask = mask_cell b t }

abbrev pub row_behind : Option Board → ℕ → Option StoredRow
row_behind None n = None
row_behind (Some b) n = option_map (lent_row b n) (slice_get b.tasks n)

-- the row of a board behind n others, if there are so many; a board that isn't there has none
abbrev pub stored_row : World → ℕ → ℕ → Option StoredRow
stored_row w board n = row_behind (find_board w board) n

-- how many rows are behind, once this was lent
abbrev pub passed : Option StoredRow → ℕ → ℕ
passed None n = n
passed (Some row) n = n + 1
