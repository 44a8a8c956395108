-- A link is refused as a cycle exactly where it would close a walk.
use Rattle.std.proofs.Common.{◌≡◌, ◌↔◌, ◌⊎◌, inl, inr, ℕ, ◌==◌, ◌||◌, Bool, true, false, true≢false, not, ◌∷◌, [], List, None, Some, Err, find, refl, sym, ◌∙◌}
use Rattle.std.specs.List.{list_any}
use Rattle.std.proofs.lemmas.Bool.{cases_Bool, eqb-true, eq-eqb}
use Rattle.tb_task.specs.declared.task.Task.{Task}
use Rattle.tb_board.specs.declared.board.Board.{Board}
use Rattle.tb_board.specs.Tasks.{has_id}
use Rattle.tb_board.specs.Links.{leads_on}
use Rattle.tb_board.specs.Walks.{DependsOn, IsTaskWalk}
use Rattle.tb_board.proofs.Walking.{leads_by_walks}
use Rattle.tb_core.specs.declared.command.AnswerDetail.{AnswerDetail}
use Rattle.tb_core.specs.declared.refusal.Refusal.TheVariants.{Cycle, NoTask, WrongStatus}
use Rattle.tb_core.specs.Action.{of_task}
use Rattle.tb_core.specs.Cycles.{AreCyclesRefused}
use Rattle.tb_core.specs.Linking.{closes_walk, depends_on, is_open_task, lacks_either}
use Rattle.tb_core.specs.Refusals.{least, unless_refused, where_holds}

-- the last of three refusals is answered exactly where it alone holds
last_alone : (lacks wrong closes : Bool) (b : Board) (detail : AnswerDetail)
    → (unless_refused (least (where_holds NoTask lacks ∷ where_holds WrongStatus wrong ∷ where_holds Cycle closes ∷ [])) b detail ≡ Err Cycle)
    ↔ ((least (where_holds NoTask lacks ∷ where_holds WrongStatus wrong ∷ None ∷ []) ≡ None) × (closes ≡ true))
last_alone true wrong closes b detail = (λ h. absurd (cc), λ h. absurd (cc))
last_alone false true closes b detail = (λ h. absurd (cc), λ h. absurd (cc))
last_alone false false true b detail = (λ h. (refl, refl), λ h. refl)
last_alone false false false b detail = (λ h. absurd (cc), λ h. absurd (true≢false (sym h.1)))

closes_if : (b : Board) (id on : ℕ) → closes_walk b id on ≡ true → (id ≡ on) ⊎ DependsOn b on id
closes_if b id on h = elim (either (id == on) (leads_on b on id) h) [
  | inl same ↦ inl (eqb-true id on same)
  | inr walk ↦ inr ((leads_by_walks b on id).0 walk)
]
  where
    either : (p q : Bool) → (p || q) ≡ true → (p ≡ true) ⊎ (q ≡ true)
    either true q h = inl refl
    either false q h = inr h

if_closes : (b : Board) (id on : ℕ) → (id ≡ on) ⊎ DependsOn b on id → closes_walk b id on ≡ true
if_closes b id on (inl same) = left (id == on) (leads_on b on id) (eq-eqb id on same)
  where
    left : (p q : Bool) → p ≡ true → (p || q) ≡ true
    left true q h = refl
    left false q h = absurd (true≢false (sym h))
if_closes b id on (inr walk) = right (id == on) (leads_on b on id) ((leads_by_walks b on id).1 walk)
  where
    right : (p q : Bool) → q ≡ true → (p || q) ≡ true
    right true q h = refl
    right false q h = h

pub cycles_refused : AreCyclesRefused
cycles_refused b id on m =
    let alone = last_alone (lacks_either b id on) (not (of_task is_open_task (find (has_id id) b.tasks))) (closes_walk b id on) _ _ in (
      λ h. let parts = alone.0 h in (parts.0, closes_if b id on parts.1),
      λ h. alone.1 (h.0, if_closes b id on h.1),
    )

found_passes : (test passes : Task → Bool) (ts : List Task) (t : Task) → find test ts ≡ Some t → passes t ≡ true → list_any passes ts ≡ true
found_passes test passes [] t found h = absurd (cc)
found_passes test passes (x ∷ xs) t found h =
    elim (cases_Bool (test x)) [
      | inl here ↦ let same : Some x ≡ Some t = rw here at found in let is : x ≡ t = cc in rw (is, h) refl
      | inr other ↦ let later : find test xs ≡ Some t = rw other at found in behind (passes x) (list_any passes xs) (found_passes test passes xs t later h)
    ]
  where
    behind : (p q : Bool) → q ≡ true → (p || q) ≡ true
    behind true q h = refl
    behind false q h = h

-- the last link of a walk leads to its end
walk_ends : (b : Board) (x : ℕ) (over : List ℕ) (y : ℕ) → IsTaskWalk b x over y → list_any (depends_on y) b.tasks ≡ true
walk_ends b x [] y link = found_passes (has_id x) (depends_on y) b.tasks link.task link.found link.link
walk_ends b x (z ∷ zs) y walk = walk_ends b z zs y walk.1

-- where no task depends on the first, no walk leads to it
pub unawaited : (b : Board) (id on : ℕ) → list_any (depends_on id) b.tasks ≡ false → false ≡ leads_on b on id
unawaited b id on none = never (leads_on b on id) refl
  where
    never : (q : Bool) → leads_on b on id ≡ q → false ≡ leads_on b on id
    never false is = sym is
    never true is = let walk = (leads_by_walks b on id).0 is in absurd (true≢false (sym (walk_ends b on walk.0 id walk.1) ∙ none))
