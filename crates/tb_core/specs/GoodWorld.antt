-- What each world keeps.
use Rattle.std.specs.Prelude.{ℕ, ◌≡◌, ◌≤◌, true, List, map, length}
use Rattle.std.specs.List.{IsDistinct, AllByRecursion, list_any, range_with_len}
use Rattle.std.specs.List.Sorted.{IsStrictlySortedBy}
use Rattle.std.specs.Str.{bytes_eq}
use Rattle.tb_board.specs.declared.board.Board.{Board}
use Rattle.tb_board.specs.declared.world.Person.{Person}
use Rattle.tb_board.specs.declared.world.RoleOn.{RoleOn}
use Rattle.tb_board.specs.declared.world.World.{World}
use Rattle.tb_board.specs.Roles.{role_order}
use Rattle.tb_board.specs.World.{owns}
use Rattle.tb_board.specs.Good.{IsGood}
use Rattle.tb_task.specs.Limits.{most_boards, most_people}

abbrev pub names : World → List (List ℕ)
names w = map (λ (p : Person). p.name) w.people

abbrev pub numbers : List Board → List ℕ
numbers bs = map (λ (b : Board). b.number) bs

-- of a person of the world on one of its boards
pub record IsRoleIn (w : World) (r : RoleOn) : Type 0 where
  pub from_board : 1 ≤ r.board
  pub to_board : r.board ≤ length w.boards
  pub from_person : 1 ≤ r.person
  pub to_person : r.person ≤ length w.people

-- someone owns the board
abbrev pub HasOwner : World → Board → Type 0
HasOwner w b = list_any (owns b.number) w.roles ≡ true

-- a good world: distinct names, boards numbered from 1, each good and owned, roles of its own people and boards in order
-- Rule: no two people have one name. Refused as NameTaken. Tried by people_and_roles.
pub record IsGoodWorld (w : World) : Type 0 where
  pub apart : IsDistinct bytes_eq (names w)
  pub people : length w.people ≤ most_people
  pub numbered : numbers w.boards ≡ range_with_len 1 (length w.boards)
  pub boards : length w.boards ≤ most_boards
  pub good : AllByRecursion IsGood w.boards
  pub owned : AllByRecursion (HasOwner w) w.boards
  pub roles : AllByRecursion (IsRoleIn w) w.roles
  pub ordered : IsStrictlySortedBy role_order w.roles
