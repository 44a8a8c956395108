-- What is told of roles has no float.
use Rattle.std.proofs.Common.{◌≡◌, ℕ, List, [], ◌∷◌, map, ◌||◌, false, refl}
use Rattle.serde_json.specs.View.{items_of}
use Rattle.serde_json.specs.Written.{has_float, items_have_float}
use Rattle.tb_calls.specs.declared.role_bodies.BoardRole.{BoardRole}
use Rattle.tb_calls.specs.declared.role_bodies.PersonRole.{PersonRole}
use Rattle.tb_calls.specs.RoleBodies.{board_role_data, me_body, people_body, person_role_data}

board_without_float : (r : BoardRole) → has_float (board_role_data r) ≡ false
unfolding board_role_data
board_without_float r = refl

person_without_float : (r : PersonRole) → has_float (person_role_data r) ≡ false
unfolding person_role_data
person_without_float r = refl

boards_without_float : (rs : List BoardRole) → items_have_float (items_of (map board_role_data rs)) ≡ false
boards_without_float [] = refl
boards_without_float (r ∷ rs) = rw (board_without_float r) (boards_without_float rs)

people_without_float : (rs : List PersonRole) → items_have_float (items_of (map person_role_data rs)) ≡ false
people_without_float [] = refl
people_without_float (r ∷ rs) = rw (person_without_float r) (people_without_float rs)

pub me_without_float : (name : List ℕ) (rs : List BoardRole) → has_float (me_body name rs) ≡ false
me_without_float name rs = rw (boards_without_float rs) refl

pub people_body_without_float : (board : ℕ) (rs : List PersonRole) → has_float (people_body board rs) ≡ false
people_body_without_float board rs = rw (people_without_float rs) refl
