-- The roles on one board.
use Rattle.std.specs.Prelude.{◌≡◌, ◌==◌, ℕ, List, Option, Some, None, filter}
use Rattle.tb_board.specs.declared.world.Role.{Role}
use Rattle.tb_board.specs.declared.world.RoleOn.{RoleOn}
use Rattle.tb_board.specs.declared.world.World.{World}
use Rattle.tb_board.specs.World.{owners, role_of}
use Rattle.tb_lookup.specs.declared.roles.RolesFound.{RolesFound}

-- all roles on a board
abbrev pub roles_at : World → ℕ → List RoleOn
roles_at w board = filter (λ (r : RoleOn). r.board == board) w.roles

-- the role of a person, where one is asked for
abbrev pub role_for : World → ℕ → Option ℕ → Option Role
role_for w board None = None
role_for w board (Some person) = role_of w board person

-- these are the roles of the caller and of the other person on a board, and how many owners it has
pub record AreRolesFound (w : World) (board caller : ℕ) (other : Option ℕ)
    (found : RolesFound) : Type 0 where
  pub caller_is : found.caller ≡ role_of w board caller
  pub other_is : found.other ≡ role_for w board other
  pub owners_are : found.owners ≡ owners w board
