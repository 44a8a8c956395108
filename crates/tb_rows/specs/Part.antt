-- The part of a world that the changes of one decision touch, and the changes of rows that follow from it alone.
use Rattle.std.specs.Prelude.{◌≡◌, ◌≤◌, ℕ, ◌+◌, ◌^◌, Bool, true, List, [], ◌∷◌, ◌++◌, Option, Some, None, if◌then◌else◌, length, nat_lt}
use Rattle.std.specs.List.{flat_map}
use Rattle.tb_board.specs.declared.board.Board.{Board}
use Rattle.tb_board.specs.declared.change.Change.{Change}
use Rattle.tb_board.specs.declared.change.Change.TheVariants.{PutTask, AddPerson as NewPerson, SetKey, AddBoard as NewBoard, SetTitle as NewTitle, SetRole, SetGone, TakeGone, SetAhead}
use Rattle.tb_board.specs.declared.world.Role.{Role}
use Rattle.tb_board.specs.declared.world.World.{World}
use Rattle.tb_board.specs.Changing.{changed, replayed}
use Rattle.tb_board.specs.Extends.{Extends}
use Rattle.tb_board.specs.World.{find_board, empty_board}
use Rattle.tb_core.specs.GoodWorld.{IsGoodWorld}
use Rattle.tb_core.specs.Shapes.{AreOfOne}
use Rattle.tb_sql.specs.declared.changes.RowChange.{RowChange}
use Rattle.tb_sql.specs.declared.changes.RowChange.TheVariants.{AddPerson, SetSecret, AddBoard, AddRole, RemoveRole, AddHorizon}
use Rattle.tb_rows.specs.declared.part.BoardPart.{BoardPart}
use Rattle.tb_rows.specs.Rows.{board_row, horizon_row, person_row, role_row, secret_of}
use Rattle.tb_rows.specs.Small.{has_few_tasks}
use Rattle.tb_rows.specs.Steps.{kept_board, Leads}
use Rattle.tb_task.specs.Limits.{most_people}

-- ---- the part

-- the board whose title, tasks, gone places or view ahead a change changes
abbrev pub board_of : Change → Option ℕ
board_of (PutTask m place t) = Some m
board_of (NewPerson name key) = None
board_of (SetKey name key) = None
board_of (NewBoard m title) = None
board_of (NewTitle m title) = Some m
board_of (SetRole m person role) = None
board_of (SetGone m g) = Some m
board_of (TakeGone m id k) = Some m
board_of (SetAhead m ahead) = Some m

-- the board that the first of the changes changes
abbrev pub touched_board : List Change → Option ℕ
touched_board [] = None
touched_board (c ∷ cs) = board_of c

abbrev pub board_in : World → Option ℕ → Option Board
board_in w None = None
board_in w (Some n) = find_board w n

-- how many tasks a board has, and what it is after the changes
abbrev pub part_after : List Change → Board → BoardPart
part_after cs b = record { tasks_before = length b.tasks; later = replayed b cs }

abbrev pub part_of_board : Option Board → List Change → Option BoardPart
part_of_board None cs = None
part_of_board (Some b) cs = Some (part_after cs b)

-- the touched board, where the world has it
abbrev pub part_of : World → List Change → Option BoardPart
part_of w cs = part_of_board (board_in w (touched_board cs)) cs

-- so many people and the part are those of a good world, which the changes of one decision leave good
pub record IsPartOf (w : World) (people : ℕ) (part : Option BoardPart)
    (cs : List Change) : Type 0 where
  pub good : IsGoodWorld w
  pub later : IsGoodWorld (changed w cs)
  pub extends : Extends w (changed w cs)
  pub shape : AreOfOne cs
  pub people_are : people ≡ length w.people
  pub touched : part ≡ part_of w cs

abbrev pub is_small_part : Option BoardPart → Bool
is_small_part None = true
is_small_part (Some p) = has_few_tasks p.later

-- ---- the changes of rows

abbrev pub part_board : Option BoardPart → List Change → List RowChange
part_board None cs = []
part_board (Some p) cs = kept_board p.tasks_before p.later cs

-- the role that a person has instead of any before
abbrev pub role_given : ℕ → ℕ → Option Role → List RowChange
role_given m q None = []
role_given m q (Some role) = AddRole (role_row (record { board = m; person = q; role = role })) ∷ []

-- of a person who has a number of 32 bits
abbrev pub role_set : ℕ → ℕ → Option Role → List RowChange
role_set m q role = if nat_lt q (2 ^ 32) then RemoveRole m q ∷ role_given m q role else []

-- those that follow from a change by itself, where there were so many people
abbrev pub single_changes : ℕ → Change → List RowChange
single_changes people (PutTask m place t) = []
single_changes people (NewPerson name key) =
    AddPerson (person_row (people + 1) (record { name = name; key = Some key })) ∷ []
single_changes people (SetKey name key) = SetSecret name (secret_of key) ∷ []
single_changes people (NewBoard m title) =
    AddBoard (board_row (empty_board m title)) ∷ AddHorizon (horizon_row (empty_board m title)) ∷ []
single_changes people (NewTitle m title) = []
single_changes people (SetRole m q role) = role_set m q role
single_changes people (SetGone m g) = []
single_changes people (TakeGone m id k) = []
single_changes people (SetAhead m ahead) = []

abbrev pub rows_of_part : ℕ → Option BoardPart → List Change → List RowChange
rows_of_part people part cs = part_board part cs ++ flat_map (single_changes people) cs

-- the rows lead to the world after the changes, and are those of the part where there is room for it
pub record AreRowsFor (people : ℕ) (part : Option BoardPart) (cs : List Change)
    (rows : List RowChange) : Type 0 where
  pub leads : (w : World) → IsPartOf w people part cs → Leads rows w (changed w cs)
  pub steps : people ≤ most_people → is_small_part part ≡ true
      → rows ≡ rows_of_part people part cs
