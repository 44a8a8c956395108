-- A board is left with an owner.
use Rattle.std.specs.Prelude.{ℕ, Bool, false, not, ◌&&◌, Option, Some, None, nat_le}
use Rattle.tb_core.specs.declared.look.SeenPerson.{SeenPerson}
use Rattle.tb_board.specs.declared.world.Role.{Role}
use Rattle.tb_board.specs.World.{is_owner}

abbrev pub is_owners : Option Role → Bool
is_owners None = false
is_owners (Some role) = is_owner role

-- the board's only owner would be none any more
-- Rule: a board keeps an owner. Refused as LastOwner. Tried by people_and_roles.
abbrev pub leaves_none : Option SeenPerson → Option Role → ℕ → Bool
leaves_none None role owners = false
leaves_none (Some p) role owners = is_owners p.role && (not (is_owners role) && nat_le owners 1)

abbrev pub person_number : Option SeenPerson → ℕ
person_number None = 0
person_number (Some p) = p.number
