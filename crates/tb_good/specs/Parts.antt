-- What a good world and its boards keep, in the parts that are tested one after the other.
use Rattle.std.specs.Prelude.{◌≡◌, ◌≤◌, ℕ, Bool, not, ◌&&◌, List, length, is_some, nat_eq, nat_le, unwrap_or}
use Rattle.std.specs.BTreeMap.{BTreeMap, get}
use Rattle.std.specs.List.{IsDistinct, AllByRecursion, list_any, range_with_len}
use Rattle.std.specs.Ordering.{is_lt, nat_cmp, ordering_then}
use Rattle.std.specs.List.Sorted.{IsStrictlySortedBy}
use Rattle.std.specs.Str.{bytes_eq}
use Rattle.tb_task.specs.declared.task.Task.{Task}
use Rattle.tb_task.specs.Checks.{fault_of}
use Rattle.tb_board.specs.declared.board.Board.{Board}
use Rattle.tb_board.specs.declared.gone.Gone.{Gone}
use Rattle.tb_board.specs.declared.world.RoleOn.{RoleOn}
use Rattle.tb_board.specs.declared.world.World.{World}
use Rattle.tb_board.specs.Tasks.{ids}
use Rattle.tb_board.specs.Good.{has_template_form, IsGood, IsLinkedOn, IsSound}
use Rattle.tb_board.specs.Instances.{by_template, HasRuns, HasTemplateOn, IsGoneOn}
use Rattle.tb_board.specs.Links.{IsAcyclic}
use Rattle.tb_board.specs.Roles.{role_order}
use Rattle.tb_core.specs.GoodWorld.{HasOwner, IsRoleIn, names, numbers}
use Rattle.tb_task.specs.Limits.{most_boards, most_people, most_tasks}

-- a board takes the task, and it has the form of a template or of another task
abbrev pub is_sound : Task → Bool
is_sound t = not (is_some (fault_of t)) && has_template_form t

-- one of the identifiers has no place
abbrev pub lacks_place : BTreeMap ℕ ℕ → List ℕ → Bool
lacks_place places ids = list_any (λ id. not (is_some (get nat_cmp places id))) ids

-- the place of an identifier, and the end where it has none
abbrev pub place_or_end : BTreeMap ℕ ℕ → ℕ → ℕ → ℕ
place_or_end places end id = unwrap_or (get nat_cmp places id) end

-- by the places of their templates, and then by their own
abbrev pub comes_before : BTreeMap ℕ ℕ → ℕ → Gone → Gone → Bool
comes_before places end g h =
    is_lt (ordering_then
    (nat_cmp (place_or_end places end g.template) (place_or_end places end h.template))
    (nat_cmp g.place h.place))

-- of a person of the world on one of its boards
abbrev pub is_role_in : World → RoleOn → Bool
is_role_in w r = nat_le 1 r.board && nat_le r.board (length w.boards) && nat_le 1 r.person
    && nat_le r.person (length w.people)

pub record HasGoodTasks (b : Board) : Type 0 where
  pub few : length b.tasks ≤ most_tasks
  pub distinct : IsDistinct nat_eq (ids b.tasks)
  pub sound : AllByRecursion IsSound b.tasks

pub record HasGoodLinks (b : Board) : Type 0 where
  pub linked : AllByRecursion (IsLinkedOn b) b.tasks
  pub acyclic : IsAcyclic b

pub record HasGoodInstances (b : Board) : Type 0 where
  pub parents : AllByRecursion (HasTemplateOn b) b.tasks
  pub gone : AllByRecursion (IsGoneOn b) b.gone
  pub gone_order : IsStrictlySortedBy (by_template (ids b.tasks)) b.gone
  pub runs : HasRuns b

pub record HasGoodPeople (w : World) : Type 0 where
  pub people : length w.people ≤ most_people
  pub apart : IsDistinct bytes_eq (names w)

pub record HasGoodRoles (w : World) : Type 0 where
  pub roles : AllByRecursion (IsRoleIn w) w.roles
  pub ordered : IsStrictlySortedBy role_order w.roles

pub record HasGoodBoards (w : World) : Type 0 where
  pub boards : length w.boards ≤ most_boards
  pub numbered : numbers w.boards ≡ range_with_len 1 (length w.boards)
  pub owned : AllByRecursion (HasOwner w) w.boards
  pub good : AllByRecursion IsGood w.boards
