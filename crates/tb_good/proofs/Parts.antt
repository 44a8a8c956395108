-- A world and a board are good where their parts are.
use Rattle.std.proofs.Common.{◌≡◌, ◌≤◌, ℕ, not, Bool, true, false, true≢false, Option, Some, None, is_some, leb, length, refl, sym, subst, BTreeMap}
use Rattle.std.specs.Bool.{Decides}
use Rattle.std.proofs.lemmas.Bool.{le-leb, leb-true}
use Rattle.std.proofs.lemmas.Bool.Decides.{Decides-and, Decides-like}
use Rattle.tb_task.specs.declared.checks.Field.{Field}
use Rattle.tb_task.specs.declared.task.Task.{Task}
use Rattle.tb_task.specs.Checks.{fault_of}
use Rattle.tb_board.specs.declared.board.Board.{Board}
use Rattle.tb_board.specs.declared.world.RoleOn.{RoleOn}
use Rattle.tb_board.specs.declared.world.World.{World}
use Rattle.tb_board.specs.Board.{lacks_depends}
use Rattle.tb_board.specs.Tasks.{ids, ArePlaces}
use Rattle.tb_board.specs.Good.{has_template_form, IsGood, IsLinkedOn, IsSound}
use Rattle.tb_core.specs.GoodWorld.{IsGoodWorld, IsRoleIn}
use Rattle.tb_good.specs.Parts.{HasGoodBoards, HasGoodInstances, HasGoodLinks, HasGoodPeople, HasGoodRoles, HasGoodTasks, is_role_in, is_sound, lacks_place}
use Rattle.tb_good.proofs.Places.{lacks_same}

-- ---- worlds

pub roles_of : (w : World) → IsGoodWorld w → HasGoodRoles w
roles_of w good = record { roles = good.roles; ordered = good.ordered }

pub people_of : (w : World) → IsGoodWorld w → HasGoodPeople w
people_of w good = record { people = good.people; apart = good.apart }

pub boards_of : (w : World) → IsGoodWorld w → HasGoodBoards w
boards_of w good = record { boards = good.boards; numbered = good.numbered; owned = good.owned; good = good.good }

pub world_of : (w : World) → HasGoodRoles w → HasGoodPeople w → HasGoodBoards w → IsGoodWorld w
world_of w roles people boards =
    record {
      apart = people.apart;
      people = people.people;
      numbered = boards.numbered;
      boards = boards.boards;
      good = boards.good;
      owned = boards.owned;
      roles = roles.roles;
      ordered = roles.ordered;
    }

-- ---- boards

pub tasks_of : (b : Board) → IsGood b → HasGoodTasks b
tasks_of b good = record { few = good.few; distinct = good.distinct; sound = good.sound }

pub links_of : (b : Board) → IsGood b → HasGoodLinks b
links_of b good = record { linked = good.linked; acyclic = good.acyclic }

pub instances_of : (b : Board) → IsGood b → HasGoodInstances b
instances_of b good = record { parents = good.parents; gone = good.gone; gone_order = good.gone_order; runs = good.runs }

pub board_of : (b : Board) → HasGoodTasks b → HasGoodLinks b → HasGoodInstances b → IsGood b
board_of b tasks links instances =
    record {
      distinct = tasks.distinct;
      few = tasks.few;
      sound = tasks.sound;
      linked = links.linked;
      acyclic = links.acyclic;
      runs = instances.runs;
      parents = instances.parents;
      gone = instances.gone;
      gone_order = instances.gone_order;
    }

-- ---- tests of one item

none_tells : (o : Option Field) → Decides (not (is_some o)) (o ≡ None)
none_tells None = (λ h. refl, λ h. refl)
none_tells (Some fault) = (λ h. absurd (true≢false (sym h)), λ h. absurd (cc))

pub sound_tells : (t : Task) → Decides (is_sound t) (IsSound t)
sound_tells t =
    Decides-like _ (λ both. record { taken = both.0; template = both.1 }) (λ sound. (sound.taken, sound.template))
    (Decides-and (not (is_some (fault_of t))) (has_template_form t) (none_tells (fault_of t)) (λ h. h, λ h. h))

no_tells : (b : Bool) → Decides (not b) (b ≡ false)
no_tells true = (λ h. absurd (true≢false (sym h)), λ h. absurd (true≢false h))
no_tells false = (λ h. refl, λ h. refl)

pub linked_tells : (b : Board) (places : BTreeMap ℕ ℕ) → ArePlaces (ids b.tasks) places → (t : Task) → Decides (not (lacks_place places t.depends)) (IsLinkedOn b t)
linked_tells b places are t = subst (λ lacks. Decides (not lacks) (IsLinkedOn b t)) (sym (lacks_same b places t.depends are)) (no_tells (lacks_depends b t.depends))

le_tells : (m n : ℕ) → Decides (leb m n) (m ≤ n)
le_tells m n = (λ h. leb-true m n h, λ h. le-leb m n h)

pub role_tells : (w : World) (r : RoleOn) → Decides (is_role_in w r) (IsRoleIn w r)
role_tells w r =
    Decides-like _
    (λ all. record { from_board = all.0.0.0; to_board = all.0.0.1; from_person = all.0.1; to_person = all.1 })
    (λ role. (((role.from_board, role.to_board), role.from_person), role.to_person))
    (Decides-and _ _ (Decides-and _ _ (Decides-and _ _ (le_tells 1 r.board) (le_tells r.board (length w.boards))) (le_tells 1 r.person)) (le_tells r.person (length w.people)))
