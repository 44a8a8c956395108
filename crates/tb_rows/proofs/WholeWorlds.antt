-- The changes of rows that follow from the changes of a world, by the whole worlds before and after them.
use Rattle.std.specs.Prelude.{ℕ, ◌+◌, ◌^◌, ◌==◌, Bool, true, false, ◌&&◌, List, [], ◌∷◌, ◌++◌, Some, if◌then◌else◌, length, map, nat_lt}
use Rattle.std.specs.List.{flat_map, list_any}
use Rattle.tb_board.specs.declared.board.Board.{Board}
use Rattle.tb_board.specs.declared.change.Change.{Change}
use Rattle.tb_board.specs.declared.change.Change.TheVariants.{PutTask, AddPerson as NewPerson, SetKey, AddBoard as NewBoard, SetTitle as NewTitle, SetRole, SetGone, TakeGone, SetAhead}
use Rattle.tb_board.specs.declared.world.RoleOn.{RoleOn}
use Rattle.tb_board.specs.declared.world.World.{World}
use Rattle.tb_board.specs.Changing.{changed_by}
use Rattle.tb_sql.specs.declared.changes.RowChange.{RowChange}
use Rattle.tb_sql.specs.declared.changes.RowChange.TheVariants.{AddPerson, SetSecret, AddBoard, AddRole, RemoveRole, AddGone, AddHorizon}
use Rattle.tb_rows.specs.Rows.{board_row, board_gone, horizon_row, person_row, role_row, rows_from, secret_of}
use Rattle.tb_rows.specs.Steps.{kept_board, new_task}

abbrev pub new_board : Board → List RowChange
new_board b = AddBoard (board_row b) ∷ AddHorizon (horizon_row b) ∷ (rows_from (λ place t. new_task b (place + 1) t) 0 b.tasks ++ map AddGone (board_gone b))

-- of the boards that were and of those that are now
abbrev pub board_changes : List Change → List Board → List Board → List RowChange
board_changes cs earlier [] = []
board_changes cs [] (b ∷ later) = new_board b ++ board_changes cs [] later
board_changes cs (a ∷ earlier) (b ∷ later) = kept_board (length a.tasks) b cs ++ board_changes cs earlier later

-- of the people, where there were so many
abbrev pub person_changes : ℕ → Change → List RowChange
person_changes people (PutTask m place t) = []
person_changes people (NewPerson name key) = AddPerson (person_row (people + 1) (record { name = name; key = Some key })) ∷ []
person_changes people (SetKey name key) = SetSecret name (secret_of key) ∷ []
person_changes people (NewBoard m title) = []
person_changes people (NewTitle m title) = []
person_changes people (SetRole m q role) = []
person_changes people (SetGone m g) = []
person_changes people (TakeGone m id k) = []
person_changes people (SetAhead m ahead) = []

abbrev pub people_changes : World → List Change → List RowChange
people_changes w [] = []
people_changes w (c ∷ cs) = person_changes (length w.people) c ++ people_changes (changed_by w c) cs

abbrev pub is_role_change : Change → Bool
is_role_change (PutTask m place t) = false
is_role_change (NewPerson name key) = false
is_role_change (SetKey name key) = false
is_role_change (NewBoard m title) = false
is_role_change (NewTitle m title) = false
is_role_change (SetRole board person role) = true
is_role_change (SetGone m g) = false
is_role_change (TakeGone m id k) = false
is_role_change (SetAhead m ahead) = false

-- a change sets the role of the person on the board
abbrev pub sets_role : ℕ → ℕ → Change → Bool
sets_role board person (PutTask m place t) = false
sets_role board person (NewPerson name key) = false
sets_role board person (SetKey name key) = false
sets_role board person (NewBoard m title) = false
sets_role board person (NewTitle m title) = false
sets_role board person (SetRole m q role) = (board == m) && (person == q)
sets_role board person (SetGone m g) = false
sets_role board person (TakeGone m id k) = false
sets_role board person (SetAhead m ahead) = false

-- the changes set the role of this person on this board
abbrev pub is_set : List Change → RoleOn → Bool
is_set cs r = list_any (sets_role r.board r.person) cs

-- a person who has a number of 32 bits has no role on the board
abbrev pub role_removed : Change → List RowChange
role_removed (PutTask m place t) = []
role_removed (NewPerson name key) = []
role_removed (SetKey name key) = []
role_removed (NewBoard m title) = []
role_removed (NewTitle m title) = []
role_removed (SetRole m q role) = if nat_lt q (2 ^ 32) then RemoveRole m q ∷ [] else []
role_removed (SetGone m g) = []
role_removed (TakeGone m id k) = []
role_removed (SetAhead m ahead) = []

abbrev pub role_added : List Change → RoleOn → List RowChange
role_added cs r = if is_set cs r then (if nat_lt r.person (2 ^ 32) then AddRole (role_row r) ∷ [] else []) else []

-- of the roles after the changes: those that are set go, and come as they are now
abbrev pub role_changes : List Change → List RoleOn → List RowChange
role_changes cs roles = if list_any is_role_change cs then flat_map role_removed cs ++ flat_map (role_added cs) roles else []

abbrev pub world_changes : World → World → List Change → List RowChange
world_changes w v cs = people_changes w cs ++ (board_changes cs w.boards v.boards ++ role_changes cs v.roles)
