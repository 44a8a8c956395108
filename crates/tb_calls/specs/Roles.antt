-- The boards of a person, and the people on a board. The roles of a good world stand by board and then by person, both in the order in
-- which they came.
use Rattle.std.specs.Prelude.{ℕ, ◌==◌, ◌-◌, Bool, List, [], Option, Some, None, if◌then◌else◌, filter, slice_get}
use Rattle.std.specs.List.{filter_map}
use Rattle.std.specs.Option.{option_map}
use Rattle.tb_board.specs.declared.board.Board.{Board}
use Rattle.tb_board.specs.declared.world.Person.{Person}
use Rattle.tb_board.specs.declared.world.Role.{Role}
use Rattle.tb_board.specs.declared.world.RoleOn.{RoleOn}
use Rattle.tb_board.specs.declared.world.World.{World}
use Rattle.tb_board.specs.World.{find_board, number_of, role_of}
use Rattle.tb_calls.specs.declared.role_bodies.BoardRole.{BoardRole}
use Rattle.tb_calls.specs.declared.role_bodies.PersonRole.{PersonRole}

abbrev pub is_of : ℕ → RoleOn → Bool
is_of person r = r.person == person

abbrev pub is_on : ℕ → RoleOn → Bool
is_on board r = r.board == board

-- ---- the boards of a person

-- a role, with the title of its board
abbrev pub with_title : RoleOn → Board → BoardRole
with_title r b = record { board = r.board; title = b.title; role = r.role }

abbrev pub board_role : World → RoleOn → Option BoardRole
board_role w r = option_map (with_title r) (find_board w r.board)

-- Rule: GET /me has the boards on which one has a role. Tried by me_and_people.
abbrev pub boards_for : World → Option ℕ → List BoardRole
boards_for w None = []
boards_for w (Some person) = filter_map (board_role w) (filter (is_of person) w.roles)

-- the boards on which the person of a name has a role
abbrev pub boards_of : World → List ℕ → List BoardRole
boards_of w name = boards_for w (number_of w name)

-- ---- the people on a board

-- the person of a number, counted from 1
abbrev pub person_at : World → ℕ → Option Person
person_at w number = if number == 0 then None else slice_get w.people (number - 1)

-- a role, with the name of its person
abbrev pub with_name : RoleOn → Person → PersonRole
with_name r p = record { name = p.name; role = r.role }

abbrev pub person_role : World → RoleOn → Option PersonRole
person_role w r = option_map (with_name r) (person_at w r.person)

-- those who have a role on a board
abbrev pub people_on : World → ℕ → List PersonRole
people_on w board = filter_map (person_role w) (filter (is_on board) w.roles)

abbrev pub role_on : World → ℕ → Option ℕ → Option Role
role_on w board None = None
role_on w board (Some person) = role_of w board person

abbrev pub where_some : {A : Type 0} → Option Role → A → Option A
where_some None a = None
where_some (Some role) a = Some a

-- they, for a person of this name who has a role there too
abbrev pub people_for : World → List ℕ → ℕ → Option (List PersonRole)
people_for w name board = where_some (role_on w board (number_of w name)) (people_on w board)
