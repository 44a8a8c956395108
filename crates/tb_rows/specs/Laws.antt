-- What rows tell of a world.
use Rattle.std.specs.Prelude.{◌≡◌, ◌==◌, List, [], ◌++◌, Ok, Option, filter, map}
use Rattle.std.specs.List.{AllByRecursion, flat_map}
use Rattle.tb_board.specs.declared.board.Board.{Board}
use Rattle.tb_board.specs.declared.world.RoleOn.{RoleOn}
use Rattle.tb_board.specs.declared.world.World.{World}
use Rattle.tb_core.specs.GoodWorld.{IsGoodWorld}
use Rattle.tb_sql_tables.specs.Content.{Content}
use Rattle.tb_sql_tables.specs.Found.{AreFound, IsOneOf}
use Rattle.tb_sql_tables.specs.declared.rows.PersonRow.{PersonRow}
use Rattle.tb_sql_tables.specs.declared.rows.BoardRow.{BoardRow}
use Rattle.tb_sql_tables.specs.declared.rows.RoleRow.{RoleRow}
use Rattle.tb_sql_tables.specs.declared.rows.TaskRow.{TaskRow}
use Rattle.tb_sql_tables.specs.declared.rows.GoneRow.{GoneRow}
use Rattle.tb_sql_tables.specs.declared.rows.HorizonRow.{HorizonRow}
use Rattle.tb_sql.specs.Changes.{is_horizon, IsPersonBefore, IsBoardBefore, IsRoleBefore, IsTaskBefore, IsGoneBefore}
use Rattle.tb_rows.specs.Rows.{world_rows, board_row, HaveSameRows}
use Rattle.tb_rows.specs.Forms.{HasForm}
use Rattle.tb_rows.specs.Reading.{people_in, board_of, roles_in, world_in}

-- the rows of a good world stand for that world
abbrev pub AreReadBack : Type 0
AreReadBack = (w : World) → IsGoodWorld w → HasForm w → world_in (world_rows w) ≡ Ok w

-- the roles of a world on one of its boards
abbrev pub roles_on : World → Board → List RoleOn
roles_on w b = filter (λ (r : RoleOn). r.board == b.number) w.roles

-- what is found on the number of a board is read as that board, and as its roles
pub record IsBoardRead (w : World) (c : Content) (b : Board) : Type 0 where
  pub board : (horizon : Option HorizonRow) (tasks : List TaskRow) (gone : List GoneRow)
      → IsOneOf (filter (is_horizon b.number) c.horizon) horizon
      → AreFound IsTaskBefore (filter (λ (row : TaskRow). row.board == b.number) c.tasks) tasks
      → AreFound IsGoneBefore (filter (λ (row : GoneRow). row.board == b.number) c.gone) gone
      → board_of (board_row b) horizon tasks gone ≡ Ok b
  pub roles : (before : List RoleOn) (rows : List RoleRow)
      → AreFound IsRoleBefore (filter (λ (row : RoleRow). row.board == b.number) c.roles) rows
      → roles_in before rows ≡ Ok (before ++ roles_on w b)

-- what is found in a content is read as the people, the boards and the roles of a world
pub record IsWorldRead (w : World) (c : Content) : Type 0 where
  pub people : (rows : List PersonRow) → AreFound IsPersonBefore c.people rows
      → people_in [] rows ≡ Ok w.people
  pub boards : (rows : List BoardRow) → AreFound IsBoardBefore c.boards rows
      → rows ≡ map board_row w.boards
  pub each : AllByRecursion (IsBoardRead w c) w.boards
  pub roles : flat_map (roles_on w) w.boards ≡ w.roles

-- a good world is read in each content that has its rows
abbrev pub AreFoundAgain : Type 0
AreFoundAgain = (w : World) (c : Content) → IsGoodWorld w → HasForm w
    → HaveSameRows (world_rows w) c → IsWorldRead w c

-- two good worlds with the same rows are one
abbrev pub AreApart : Type 0
AreApart = (v w : World) → IsGoodWorld v → IsGoodWorld w → HasForm v → HasForm w
    → HaveSameRows (world_rows v) (world_rows w) → v ≡ w
