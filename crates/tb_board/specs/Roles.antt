-- Roles that are set and removed.
use Rattle.std.specs.Prelude.{ℕ, Bool, List, [], ◌∷◌, Option, Some, None, if◌then◌else◌}
use Rattle.std.specs.List.{list_any}
use Rattle.std.specs.Ordering.{is_lt, nat_cmp, ordering_then}
use Rattle.std.specs.Set.{remove_key}
use Rattle.std.specs.declared.cmp.Ordering.{Ordering}
use Rattle.tb_board.specs.declared.world.Role.{Role}
use Rattle.tb_board.specs.declared.world.RoleOn.{RoleOn}
use Rattle.tb_board.specs.First.{change_first}
use Rattle.tb_board.specs.World.{is_role_of}

-- by boards, and then by people
abbrev pub role_order : RoleOn → RoleOn → Ordering
role_order r s = ordering_then (nat_cmp r.board s.board) (nat_cmp r.person s.person)

abbrev pub comes_before : RoleOn → RoleOn → Bool
comes_before r s = is_lt (role_order r s)

-- one more role, before the first that comes after it
abbrev pub with_new_role : List RoleOn → RoleOn → List RoleOn
with_new_role [] r = r ∷ []
with_new_role (s ∷ ss) r = if comes_before r s then r ∷ s ∷ ss else s ∷ with_new_role ss r

-- a person has this role on a board, or none
abbrev pub set_role : List RoleOn → ℕ → ℕ → Option Role → List RoleOn
set_role rs board person None = remove_key (is_role_of board person) rs
set_role rs board person (Some role) =
    if list_any (is_role_of board person) rs
    then change_first (is_role_of board person) (λ r. record r { role = role }) rs
    else with_new_role rs (record { board = board; person = person; role = role })
