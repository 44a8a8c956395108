-- The changes of a decision are of one board or of one person.
use Rattle.std.proofs.Common.{◌≡◌, ℕ, [], List, Option, Some, None, ap, inl, inr, refl, subst, ◌∙◌}
use Rattle.std.specs.List.{AllByRecursion}
use Rattle.tb_board.specs.declared.board.Board.{Board}
use Rattle.tb_board.specs.declared.change.Change.{Change}
use Rattle.tb_board.specs.declared.draft.Draft.{Draft}
use Rattle.tb_board.specs.declared.world.Person.{Person}
use Rattle.tb_board.specs.declared.world.Role.{Role}
use Rattle.tb_board.specs.Changing.{IsDraft, IsOn}
use Rattle.tb_core.specs.declared.command.Answer.{Answer}
use Rattle.tb_core.specs.declared.deciding.Decision.{Decision}
use Rattle.tb_core.specs.declared.look.Seen.{Seen}
use Rattle.tb_core.specs.declared.refusal.Refusal.{Refusal}
use Rattle.tb_core.specs.Giving.{IsRoleDecision}
use Rattle.tb_core.specs.Keys.{key_decision, key_refusals, own_decision, own_refusals}
use Rattle.tb_core.specs.Outcomes.{decision_of}
use Rattle.tb_core.specs.People.{board_decision, board_refusals, person_decision, person_refusals}
use Rattle.tb_core.specs.Refusals.{least}
use Rattle.tb_core.specs.Shapes.{AreOfOne}
use Rattle.tb_sweep.proofs.Adding.{number-sweep}

-- no changes are of any board
pub no_changes : AreOfOne []
no_changes = inl (record { board = 0; are_on = tt })

-- the changes of a draft are those of its board
pub draft_shape : (start : Board) (draft : Draft) → IsDraft start draft → AreOfOne draft.changes
draft_shape start draft made = inl (record { board = draft.board.number; are_on = made.own })

-- where a role is given, the changes of the sweep are of the same board
pub role_shape : (b : Board) (person : ℕ) (role : Option Role) (m : ℕ) (d : Decision) → IsRoleDecision b person role m d → AreOfOne d.changes
role_shape b person role m d is =
    let number = ap (λ (x : Board). x.number) is.swept ∙ number-sweep b m in
    inr (inl (record {
      board = b.number;
      person = person;
      role = role;
      own = is.draft.changes;
      are_on = subst (λ (n : ℕ). AllByRecursion (IsOn n) is.draft.changes) number is.made.own;
      are = is.changes;
    }))

-- unless it is a refusal
unless_refusal : (refusal : Option Refusal) (cs : List Change) (answer : Answer) → AreOfOne cs → AreOfOne (decision_of refusal cs answer).changes
unless_refusal None cs answer shape = shape
unless_refusal (Some refusal) cs answer shape = no_changes

person_known : (seen : Seen) (caller : Option ℕ) (name key : List ℕ) → AreOfOne (person_decision seen caller name key).changes
person_known seen None name key = no_changes
person_known seen (Some caller) name key =
    unless_refusal (least (person_refusals seen caller)) _ _ (inr (inr (inr (inl (record { name = name; key = key; are = refl })))))

board_known : (seen : Seen) (caller : Option ℕ) (title : List ℕ) → AreOfOne (board_decision seen caller title).changes
board_known seen None title = no_changes
board_known seen (Some caller) title =
    unless_refusal (least (board_refusals seen)) _ _ (inr (inr (inl (record { board = _; title = title; person = caller; are = refl }))))

own_known : (own : Option Person) (old new : List ℕ) → AreOfOne (own_decision own old new).changes
own_known None old new = no_changes
own_known (Some p) old new =
    unless_refusal (least (own_refusals p old)) _ _ (inr (inr (inr (inr (record { name = p.name; key = Some new; are = refl })))))

key_known : (seen : Seen) (caller : Option ℕ) (name : List ℕ) (key : Option (List ℕ)) → AreOfOne (key_decision seen caller name key).changes
key_known seen None name key = no_changes
key_known seen (Some caller) name key =
    unless_refusal (least (key_refusals seen caller)) _ _ (inr (inr (inr (inr (record { name = name; key = key; are = refl })))))

pub own_shape : (own : Option Person) (old new : List ℕ) (d : Decision) → d ≡ own_decision own old new → AreOfOne d.changes
own_shape own old new d is = rw is (own_known own old new)

pub key_shape : (seen : Seen) (name : List ℕ) (key : Option (List ℕ)) (d : Decision) → d ≡ key_decision seen seen.caller name key → AreOfOne d.changes
key_shape seen name key d is = rw is (key_known seen seen.caller name key)

pub person_shape : (seen : Seen) (name key : List ℕ) (d : Decision) → d ≡ person_decision seen seen.caller name key → AreOfOne d.changes
person_shape seen name key d is = rw is (person_known seen seen.caller name key)

pub board_shape : (seen : Seen) (title : List ℕ) (d : Decision) → d ≡ board_decision seen seen.caller title → AreOfOne d.changes
board_shape seen title d is = rw is (board_known seen seen.caller title)
