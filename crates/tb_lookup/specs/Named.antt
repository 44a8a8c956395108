-- A person's name, and a role, with the name or the title of what it is of.
use Rattle.std.specs.Prelude.{◌≡◌, ℕ, List, Some, option_map}
use Rattle.tb_board.specs.declared.world.Person.{Person}
use Rattle.tb_board.specs.declared.world.RoleOn.{RoleOn}
use Rattle.tb_board.specs.declared.world.World.{World}
use Rattle.tb_calls.specs.Roles.{board_role, person_at, person_role}
use Rattle.tb_calls.specs.declared.role_bodies.BoardRole.{BoardRole}
use Rattle.tb_calls.specs.declared.role_bodies.PersonRole.{PersonRole}

-- the person of this number has the name
pub record IsNameAt (w : World) (number : ℕ) (name : List ℕ) : Type 0 where
  pub is : option_map (λ (p : Person). p.name) (person_at w number) ≡ Some name

-- this is the role, with the name of its person
pub record IsNamed (w : World) (role : RoleOn) (person : PersonRole) : Type 0 where
  pub is : person_role w role ≡ Some person

-- this is the role, with the title of its board
pub record IsTitled (w : World) (role : RoleOn) (board : BoardRole) : Type 0 where
  pub is : board_role w role ≡ Some board
