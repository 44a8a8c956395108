-- What an audit counts.
use Rattle.std.specs.Prelude.{◌≡◌, ◌≤◌, ◌⊎◌, ◌+◌, ◌==◌, ◌↔◌, ℕ, Bool, IsTrue, true, List, [], ◌∷◌, Option, None, Some, Ok, filter, length, map, not, sum_by, IsPermutation}
use Rattle.std.specs.List.{list_all, list_any, AllByRecursion}
use Rattle.tb_board.specs.declared.board.Board.{Board}
use Rattle.tb_board.specs.declared.world.World.{World}
use Rattle.tb_board.specs.Good.{IsGood}
use Rattle.tb_sql_tables.specs.declared.rows.BoardRow.{BoardRow}
use Rattle.tb_sql_tables.specs.declared.rows.RoleRow.{RoleRow}
use Rattle.tb_sql_tables.specs.declared.rows.TaskRow.{TaskRow}
use Rattle.tb_sql_tables.specs.declared.rows.LinkRow.{LinkRow}
use Rattle.tb_sql_tables.specs.declared.rows.InstanceRow.{InstanceRow}
use Rattle.tb_sql_tables.specs.declared.rows.GoneRow.{GoneRow}
use Rattle.tb_sql_tables.specs.declared.rows.HorizonRow.{HorizonRow}
use Rattle.tb_sql_tables.specs.Content.{Content}
use Rattle.tb_sql_tables.specs.Found.{AreFound, IsOneOf}
use Rattle.tb_sql.specs.Changes.{is_board, is_horizon, IsBoardBefore, IsGoneBefore, IsInstanceBefore, IsLinkBefore, IsRoleBefore, IsTaskBefore}
use Rattle.tb_rows.specs.AsStored.{AreAsStored}
use Rattle.tb_rows.specs.Rows.{board_instances, board_links, board_row, board_tasks, horizon_row, world_rows}
use Rattle.tb_rows.specs.Reading.{board_of, is_gone_on, is_task_on}
use Rattle.tb_keeper.specs.SoundHistories.{IsSoundHistory}
use Rattle.tb_keeper.specs.SoundRows.{is_role_row, AreNumbered, HasPeople}
use Rattle.tb_task.specs.Limits.{most_boards}
use Rattle.tb_keeper.specs.declared.auditing.Audit.{Audit}
use Rattle.tb_keeper.specs.declared.auditing.Checked.{Checked}

-- ---- the rows of one board

abbrev pub is_link_on : ℕ → LinkRow → Bool
is_link_on n row = row.board == n

abbrev pub is_instance_on : ℕ → InstanceRow → Bool
is_instance_on n row = row.board == n

-- on the board's number the content has its row, that of how far ahead it looks, and its tasks, links and instances, in any order
pub record HasItsTables (c : Content) (b : Board) : Type 0 where
  pub row_is : IsPermutation (filter (is_board b.number) c.boards) (board_row b ∷ [])
  pub horizon_is : IsPermutation (filter (is_horizon b.number) c.horizon) (horizon_row b ∷ [])
  pub tasks_are : IsPermutation (filter (is_task_on b.number) c.tasks) (board_tasks b)
  pub links_are : IsPermutation (filter (is_link_on b.number) c.links) (board_links b)
  pub instances_are : IsPermutation (filter (is_instance_on b.number) c.instances)
      (board_instances b)

-- it has them, and the board's history is sound
pub record HasItsRows (c : Content) (b : Board) : Type 0 where
  pub tables : HasItsTables c b
  pub history : IsSoundHistory c b.number (length b.tasks)

-- ---- the numbers

abbrev pub task_count : List Board → ℕ
task_count [] = 0
task_count (b ∷ bs) = length b.tasks + task_count bs

-- so many of the boards have other rows than their own
abbrev pub AreFaults : Content → List Board → ℕ → Type 0
AreFaults c [] n = n ≡ 0
AreFaults c (b ∷ bs) n = (HasItsRows c b × AreFaults c bs n)
    ⊎ ((HasItsRows c b → ⊥) × ((m : ℕ) × (n ≡ m + 1) × AreFaults c bs m))

-- the audit has the numbers of these boards, of their tasks, and of those that have other rows in the content
pub record Tells (c : Content) (bs : List Board) (audit : Audit) : Type 0 where
  pub boards_are : audit.boards ≡ length bs
  pub tasks_are : audit.tasks ≡ task_count bs
  pub faults_are : AreFaults c bs audit.faults

-- it has the numbers of boards and tasks of the world, and no faults
abbrev pub sound : World → Audit
sound w = record { boards = length w.boards; tasks = task_count w.boards; faults = 0 }

-- ---- contents that differ in what is computed from the tasks

abbrev pub without_low : BoardRow → BoardRow
without_low row = record row { low = 0 }

abbrev pub without_mask : TaskRow → TaskRow
without_mask row = record row { mask = None }

-- there is the row of how far ahead the board looks, or none
abbrev pub HasHorizonOrNone : Content → Board → Type 0
HasHorizonOrNone c b = (filter (is_horizon b.number) c.horizon ≡ [])
    ⊎ (filter (is_horizon b.number) c.horizon ≡ horizon_row b ∷ [])

-- The boards, the tasks and the gone places are those of the world, but for lows and masks, and of how far ahead a board looks there
-- may be no row. Links and instances may be any.
pub record HasBoardsOf (w : World) (c : Content) : Type 0 where
  pub boards : IsPermutation (map without_low c.boards) (map without_low (world_rows w).boards)
  pub tasks : IsPermutation (map without_mask c.tasks) (map without_mask (world_rows w).tasks)
  pub gone : IsPermutation c.gone (world_rows w).gone
  pub horizon : AllByRecursion (HasHorizonOrNone c) w.boards

-- ---- the rows of boards as they are found

-- a board whose row of how far ahead it looks is missing is read as one that looks one ahead
abbrev pub known_horizon : ℕ → Option HorizonRow → HorizonRow
known_horizon n None = record { board = n; ahead = 1 }
known_horizon n (Some row) = row

-- what is found on the number of a row is read as the board, whatever the lows and masks, and where it looks ahead so far
pub record StandsFor (c : Content) (row : BoardRow) (b : Board) : Type 0 where
  pub number : row.id ≡ b.number
  pub own : IsPermutation (filter (is_board b.number) c.boards) (row ∷ [])
  pub horizon : HasHorizonOrNone c b
  pub tasks : (tasks : List TaskRow)
      → AreFound IsTaskBefore (filter (is_task_on b.number) c.tasks) tasks
      → map without_mask tasks ≡ map without_mask (board_tasks b)
  pub read : (tasks : List TaskRow) (gone : List GoneRow)
      → AreFound IsTaskBefore (filter (is_task_on b.number) c.tasks) tasks
      → AreFound IsGoneBefore (filter (is_gone_on b.number) c.gone) gone
      → board_of row (Some (horizon_row b)) tasks gone ≡ Ok b

-- each row for the board at its place
abbrev pub StandFor : Content → List BoardRow → List Board → Type 0
StandFor c [] [] = Unit {0}
StandFor c [] (b ∷ bs) = ⊥
StandFor c (row ∷ rows) [] = ⊥
StandFor c (row ∷ rows) (b ∷ bs) = StandsFor c row b × StandFor c rows bs

-- how many tasks the board has, and whether it has its rows but for its history
pub record IsTablesCheck (c : Content) (b : Board) (checked : Checked) : Type 0 where
  pub size : checked.tasks ≡ length b.tasks
  pub tells : IsTrue checked.as_stored ↔ HasItsTables c b

-- a check of a board but for its history, with its history
pub record IsCheckWith (c : Content) (board : ℕ) (tables checked : Checked) : Type 0 where
  pub size : checked.tasks ≡ tables.tasks
  pub tells : IsTrue checked.as_stored
      ↔ IsTrue tables.as_stored × IsSoundHistory c board tables.tasks

-- how many tasks the board has, and whether it has its rows
pub record IsCheckOf (c : Content) (b : Board) (checked : Checked) : Type 0 where
  pub size : checked.tasks ≡ length b.tasks
  pub tells : IsTrue checked.as_stored ↔ HasItsRows c b

-- ---- boards as they are found, whatever the rows are

-- these rows are read as a good board, whose tasks are so many, and which has its rows or not
pub record IsCheckBy (row : BoardRow) (horizon : Option HorizonRow) (tasks : List TaskRow)
    (gone : List GoneRow) (links : List LinkRow) (instances : List InstanceRow)
    (checked : Checked) : Type 0 where
  pub board : Board
  pub read : board_of row (Some (known_horizon row.id horizon)) tasks gone ≡ Ok board
  pub good : IsGood board
  pub size : checked.tasks ≡ length board.tasks
  pub tells : IsTrue checked.as_stored ↔ AreAsStored board row horizon tasks links instances

-- so it is with what is found on the number of a row, each kind in the order of its keys
pub record IsCheckOfRow (c : Content) (row : BoardRow) (checked : Checked) : Type 0 where
  pub horizon : Option HorizonRow
  pub tasks : List TaskRow
  pub gone : List GoneRow
  pub links : List LinkRow
  pub instances : List InstanceRow
  pub horizon_found : IsOneOf (filter (is_horizon row.id) c.horizon) horizon
  pub tasks_found : AreFound IsTaskBefore (filter (is_task_on row.id) c.tasks) tasks
  pub gone_found : AreFound IsGoneBefore (filter (is_gone_on row.id) c.gone) gone
  pub links_found : AreFound IsLinkBefore (filter (is_link_on row.id) c.links) links
  pub instances_found : AreFound IsInstanceBefore
      (filter (is_instance_on row.id) c.instances) instances
  pub check : IsCheckBy row horizon tasks gone links instances checked

abbrev pub is_role_on : ℕ → RoleRow → Bool
is_role_on n row = row.board == n

abbrev pub is_owners : RoleRow → Bool
is_owners row = row.kind == 1

-- The board of a number has an owner, and the roles on it are those of so many people.
pub record IsOwned (c : Content) (people n : ℕ) : Type 0 where
  pub roles : List RoleRow
  pub found : AreFound IsRoleBefore (filter (is_role_on n) c.roles) roles
  pub owned : list_any is_owners roles ≡ true
  pub people_on : list_all (is_role_row people) roles ≡ true

-- so is that of a row, and so it is with what is found on its number, and with its history
pub record IsRowCheck (c : Content) (people : ℕ) (row : BoardRow) (checked : Checked) : Type 0 where
  pub owned : IsOwned c people row.id
  pub tables : Checked
  pub board : IsCheckOfRow c row tables
  pub history : IsCheckWith c row.id tables checked

-- a check for each row
abbrev pub AreChecksOf : Content → ℕ → List BoardRow → List Checked → Type 0
AreChecksOf c people [] [] = Unit {0}
AreChecksOf c people [] (x ∷ xs) = ⊥
AreChecksOf c people (row ∷ rows) [] = ⊥
AreChecksOf c people (row ∷ rows) (x ∷ xs) =
    IsRowCheck c people row x × AreChecksOf c people rows xs

abbrev pub differs : Checked → Bool
differs checked = not checked.as_stored

-- the audit has the numbers of these rows, of the tasks of their boards, and of the boards that have other rows than their own
pub record CountsRows (c : Content) (people : ℕ) (rows : List BoardRow) (audit : Audit)
    : Type 0 where
  pub checks : List Checked
  pub each : AreChecksOf c people rows checks
  pub boards_are : audit.boards ≡ length rows
  pub tasks_are : audit.tasks ≡ sum_by (λ (x : Checked). x.tasks) checks
  pub faults_are : audit.faults ≡ length (filter differs checks)

-- it counts all boards, which are numbered from 1
pub record CountsBoards (c : Content) (people : ℕ) (audit : Audit) : Type 0 where
  pub rows : List BoardRow
  pub found : AreFound IsBoardBefore c.boards rows
  pub few : length rows ≤ most_boards
  pub numbered : AreNumbered rows
  pub counts : CountsRows c people rows audit

-- The audit counts all boards of the content. Replies and roles are those of its people.
pub record IsCountOf (c : Content) (audit : Audit) : Type 0 where
  pub people : ℕ
  pub has_people : HasPeople c people
  pub boards : CountsBoards c people audit
