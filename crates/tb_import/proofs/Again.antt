-- An import that comes again, and walks that it would close.
use Rattle.std.proofs.Common.{◌≡◌, ℕ, ◌-◌, ◌||◌, not, Bool, true, false, true≢false, List, [], ◌∷◌, ◌++◌, Option, Some, None, Result, Ok, Err, length, refl, sym, ◌∙◌, ap, arith, subst, inl, inr}
use Rattle.std.specs.List.{AllByRecursion, list_any}
use Rattle.std.proofs.lemmas.Bool.{cases_Bool, eq-eqb}
use Rattle.std.proofs.lemmas.List.{append-nil}
use Rattle.std.proofs.lemmas.List.Folds.{list_any-append}
use Rattle.tb_graph.specs.Leads.{is_acyclic}
use Rattle.tb_graph.proofs.Leading.{is_acyclic_decides}
use Rattle.tb_task.specs.declared.incoming.Incoming.{Incoming}
use Rattle.tb_board.specs.declared.board.Board.{Board}
use Rattle.tb_board.specs.Board.{is_on}
use Rattle.tb_board.specs.Links.{links}
use Rattle.tb_board.proofs.Walking.{acyclic_by_walks}
use Rattle.tb_import.specs.declared.imported.ImportCounts.{ImportCounts}
use Rattle.tb_import.specs.declared.refusal.ImportRefusal.{ImportRefusal}
use Rattle.tb_import.specs.declared.refusal.ImportRefusal.TheVariants.{Cycle, Full}
use Rattle.tb_import.specs.Again.{AreClosedWalksFound, ImportAgainChangesNothing}
use Rattle.tb_import.proofs.Known.{AreKnown}
use Rattle.tb_import.specs.Import.{board_after, counts_after, counts_of, with_masks, with_new_tasks}
use Rattle.tb_import.specs.News.{found_new, has_own_id, is_there, new_tasks}
use Rattle.tb_import.specs.Refusal.{bad_task, import_refusals, is_cyclic, is_too_full, judged_import, least, unless_refused, where_holds}
use Rattle.tb_import.proofs.Moving.{or_left, or_right}
use Rattle.tb_import.proofs.Templates.{shape, there_after}

not_false : (p : Bool) → not p ≡ false → p ≡ true
not_false true h = refl
not_false false h = absurd (true≢false h)

pub closed_walks_found : AreClosedWalksFound
closed_walks_found b = (
  λ h. (acyclic_by_walks b).0 ((is_acyclic_decides (links b)).0 (not_false (is_acyclic (links b)) h)),
  λ none. ap not ((is_acyclic_decides (links b)).1 ((acyclic_by_walks b).1 none)),
)

-- ---- the tasks of the list are on the board

longer : (p r s t : Bool) → s ≡ (r || t) → (p || r) ≡ true → (p || s) ≡ true
longer true r s t is h = refl
longer false r s t is h = is ∙ or_left r t h

-- what was found stays found
found_more : (b : Board) (q : ℕ) (found is : List Incoming) → is_there b found q ≡ true → is_there b (found_new b found is) q ≡ true
found_more b q found [] h = h
found_more b q found (i ∷ is) h =
    elim (cases_Bool (is_there b found i.task.id)) [
      | inl known ↦ rw known (found_more b q found is h)
      | inr other ↦ rw other (found_more b q (found ++ i ∷ []) is (longer (is_on b q) (list_any (has_own_id q) found) (list_any (has_own_id q) (found ++ i ∷ [])) (list_any (has_own_id q) (i ∷ [])) (list_any-append (has_own_id q) found (i ∷ [])) h))
    ]

last_there : (b : Board) (found : List Incoming) (i : Incoming) → is_there b (found ++ i ∷ []) i.task.id ≡ true
last_there b found i =
    or_right (is_on b i.task.id) _
    (list_any-append (has_own_id i.task.id) found (i ∷ [])
    ∙ or_right (list_any (has_own_id i.task.id) found) _ (or_left (has_own_id i.task.id i) false (eq-eqb i.task.id i.task.id refl)))

abbrev AreThere : Board → List Incoming → List Incoming → Type 0
AreThere b all is = AllByRecursion (λ (i : Incoming). is_there b all i.task.id ≡ true) is

found_each : (b : Board) (found is : List Incoming) → AreThere b (found_new b found is) is
found_each b found [] = tt
found_each b found (i ∷ is) =
    elim (cases_Bool (is_there b found i.task.id)) [
      | inl known ↦
          let same : found_new b found (i ∷ is) ≡ found_new b found is = rw known refl in
          subst (λ all. AreThere b all (i ∷ is)) (sym same) (found_more b i.task.id found is known, found_each b found is)
      | inr other ↦
          let same : found_new b found (i ∷ is) ≡ found_new b (found ++ i ∷ []) is = rw other refl in
          subst (λ all. AreThere b all (i ∷ is)) (sym same) (found_more b i.task.id (found ++ i ∷ []) is (last_there b found i), found_each b (found ++ i ∷ []) is)
    ]

each_on : (b c : Board) (new : List Incoming) → ((q : ℕ) → is_on c q ≡ is_there b new q) → (is : List Incoming)
    → AllByRecursion (λ (i : Incoming). is_there b new i.task.id ≡ true) is → AreKnown c is
each_on b c new there [] h = tt
each_on b c new there (i ∷ is) h = (there i.task.id ∙ h.0, each_on b c new there is h.1)

pub known_after : (b : Board) (is : List Incoming) → AreKnown (board_after b is) is
known_after b is =
    let new = new_tasks b is in
    let start = with_masks b new in
    each_on b (board_after b is) new (there_after b (board_after b is) new start.gone (ap (λ (c : Board). c.tasks) (shape b new start new))) is (found_each b [] is)

-- where all are known none is new
pub none_new : (c : Board) (is : List Incoming) → AreKnown c is → new_tasks c is ≡ []
none_new c [] h = refl
none_new c (i ∷ is) h = rw h.0 (none_new c is h.1)

pub same_after : (c : Board) (is : List Incoming) → AreKnown c is → board_after c is ≡ c
same_after c is known = ap (with_new_tasks c) (none_new c is known) ∙ ap (λ gs. record c { gone = gs }) (append-nil c.gone)

pub counts_again : (c : Board) (is : List Incoming) → AreKnown c is
    → counts_after c is ≡ record { known = length is; new = 0; dropped = 0; orphans = 0; unlinked = 0 }
counts_again c is known =
    let whole : length is - 0 ≡ length is = omega arith in
    ap (counts_of c is) (none_new c is known) ∙ ap (λ (n : ℕ). record { known = n; new = 0; dropped = 0; orphans = 0; unlinked = 0 }) whole

board_in : Result (Board × ImportCounts) ImportRefusal → Board → Board
board_in (Ok x) d = x.0
board_in (Err e) d = d

accepted : (o : Option ImportRefusal) (b c : Board) (counts told : ImportCounts) → unless_refused o b counts ≡ Ok (c, told) → (o ≡ None) × (b ≡ c)
unfolding board_in
accepted None b c counts told h = (refl, ap (λ r. board_in r b) h)
accepted (Some r) b c counts told h = absurd (cc)

pub import_again : ImportAgainChangesNothing
import_again b is c told h =
    let first = accepted (least (import_refusals b is)) (board_after b is) c (counts_after b is) told h in
    let later = board_after b is in
    let known = known_after b is in
    let same = same_after later is known in
    let none : least (import_refusals later is) ≡ None =
    ap (λ d. least (bad_task 0 is ∷ where_holds Cycle (is_cyclic d) ∷ where_holds Full (is_too_full d) ∷ [])) same ∙ first.0 in
    let again : judged_import later is ≡ Ok (later, record { known = length is; new = 0; dropped = 0; orphans = 0; unlinked = 0 }) =
    ap (λ o. unless_refused o (board_after later is) (counts_after later is)) none
    ∙ ap (λ d. unless_refused None d (counts_after later is)) same ∙ ap (λ n. unless_refused None later n) (counts_again later is known) in
    rw (sym first.1) again
