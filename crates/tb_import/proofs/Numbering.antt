-- The places of templates while new tasks go to a board.
use Rattle.std.proofs.Common.{◌≡◌, ℕ, ◌+◌, ◌==◌, ◌||◌, nat_eq, Bool, true, false, true≢false, List, [], ◌∷◌, ◌++◌, Option, Some, None, if◌then◌else◌, length, map, refl, sym, ◌∙◌, ap, subst, inl, inr}
use Rattle.std.specs.List.{IsDistinct, list_any, range_with_len}
use Rattle.std.proofs.lemmas.Bool.{cases_Bool, eq-eqb, eqb-true}
use Rattle.std.proofs.lemmas.List.{append-nil}
use Rattle.tb_task.specs.declared.incoming.Incoming.{Incoming}
use Rattle.tb_task.specs.declared.task.Task.{Task}
use Rattle.tb_board.specs.declared.board.Board.{Board}
use Rattle.tb_board.specs.declared.gone.Gone.{Gone}
use Rattle.tb_board.specs.Changing.{without_place}
use Rattle.tb_board.specs.Instances.{HasRuns}
use Rattle.tb_board.specs.InstancePlaces.{instance_places}
use Rattle.tb_board.specs.Templates.{gone_places, is_gone_at, IsRun, places}
use Rattle.tb_board.proofs.Fits.{and_true}
use Rattle.tb_board.proofs.Runs.{instance_places-push}
use Rattle.tb_import.specs.Entering.{entered, is_gone, is_parent, is_taken, mask_in, mask_places, marked_from, takes, with_all, with_new, without_taken}
use Rattle.tb_import.specs.News.{has_own_id}
use Rattle.tb_import.proofs.Moving.{absent_from, is_number, or_parts, others, run_moved}

abbrev pub own_ids : List Incoming → List ℕ
own_ids is = map (λ (i : Incoming). i.task.id) is

pub on_own : (q : ℕ) (is : List Incoming) → list_any (has_own_id q) is ≡ list_any (is_number q) (own_ids is)
on_own q [] = refl
on_own q (i ∷ is) = ap (λ p. (i.task.id == q) || p) (on_own q is)

pub gone_places-append : (id : ℕ) (gs hs : List Gone) → gone_places id (gs ++ hs) ≡ gone_places id gs ++ gone_places id hs
gone_places-append id [] hs = refl
gone_places-append id (g ∷ gs) hs =
    elim (cases_Bool (g.template == id)) [
      | inl here ↦ rw here (ap (λ xs. g.place ∷ xs) (gone_places-append id gs hs))
      | inr other ↦ rw other (gone_places-append id gs hs)
    ]

marked_own : (id k : ℕ) (marks : List ℕ) → gone_places id (marked_from id k marks) ≡ range_with_len k (length marks)
marked_own id k [] = refl
marked_own id k (m ∷ ms) = rw (eq-eqb id id refl) (ap (λ xs. k ∷ xs) (marked_own id (k + 1) ms))

marked_other : (id other k : ℕ) (marks : List ℕ) → (other == id) ≡ false → gone_places id (marked_from other k marks) ≡ []
marked_other id other k [] apart = refl
marked_other id other k (m ∷ ms) apart = rw apart (marked_other id other (k + 1) ms apart)

-- no new task has the identifier
pub masks_none : (id : ℕ) (is : List Incoming) → list_any (has_own_id id) is ≡ false → gone_places id (mask_places is) ≡ []
masks_none id [] h = refl
masks_none id (i ∷ is) h =
    let parts = or_parts (i.task.id == id) (list_any (has_own_id id) is) h in
    gone_places-append id (marked_from i.task.id 0 (mask_in i)) (mask_places is) ∙ ap (λ xs. xs ++ gone_places id (mask_places is)) (marked_other id i.task.id 0 (mask_in i) parts.0)
    ∙ masks_none id is parts.1

-- one new task has it at most
pub masks_range : (id : ℕ) (is : List Incoming) → IsDistinct nat_eq (own_ids is) → (n : ℕ) × (gone_places id (mask_places is) ≡ range_with_len 0 n)
unfolding IsDistinct
masks_range id [] h = (0, refl)
masks_range id (i ∷ is) h =
    elim (cases_Bool (i.task.id == id)) [
      | inl here ↦
          let rest : gone_places id (mask_places is) ≡ [] = masks_none id is (on_own id is ∙ absent_from i.task.id id (own_ids is) here h.0) in
          let own : gone_places id (marked_from i.task.id 0 (mask_in i)) ≡ range_with_len 0 (length (mask_in i)) =
          subst (λ q. gone_places id (marked_from q 0 (mask_in i)) ≡ range_with_len 0 (length (mask_in i))) (sym (eqb-true i.task.id id here)) (marked_own id 0 (mask_in i)) in (
            length (mask_in i),
            gone_places-append id (marked_from i.task.id 0 (mask_in i)) (mask_places is) ∙ ap (λ xs. gone_places id (marked_from i.task.id 0 (mask_in i)) ++ xs) rest
                ∙ append-nil (gone_places id (marked_from i.task.id 0 (mask_in i))) ∙ own,
          )
      | inr other ↦
          let later = masks_range id is h.1 in (
            later.0,
            gone_places-append id (marked_from i.task.id 0 (mask_in i)) (mask_places is)
                ∙ ap (λ xs. xs ++ gone_places id (mask_places is)) (marked_other id i.task.id 0 (mask_in i) other) ∙ later.1,
          )
    ]

-- a gone place is among the places
gone_listed : (id k : ℕ) (gs : List Gone) → is_gone gs id k ≡ list_any (is_number k) (gone_places id gs)
gone_listed id k [] = refl
gone_listed id k (g ∷ gs) =
    elim (cases_Bool (g.template == id)) [
      | inl here ↦ rw here (ap (λ p. (g.place == k) || p) (gone_listed id k gs))
      | inr other ↦ rw other (gone_listed id k gs)
    ]

without_own : (id k : ℕ) (gs : List Gone) → gone_places id (without_place id k gs) ≡ others k (gone_places id gs)
without_own id k [] = refl
without_own id k (g ∷ gs) =
    elim (cases_Bool (g.template == id)) [
      | inl here ↦ elim (cases_Bool (g.place == k)) [
        | inl there ↦ rw (here, there) (without_own id k gs)
        | inr apart ↦ rw (here, apart, here) (ap (λ xs. g.place ∷ xs) (without_own id k gs))
      ]
      | inr other ↦ rw (other, other) (without_own id k gs)
    ]

without_other : (q id k : ℕ) (gs : List Gone) → (q == id) ≡ false → gone_places id (without_place q k gs) ≡ gone_places id gs
without_other q id k [] apart = refl
without_other q id k (g ∷ gs) apart =
    elim (cases_Bool (is_gone_at q k g)) [
      | inl here ↦
          let parts = and_true (g.template == q) (g.place == k) here in
          let other : (g.template == id) ≡ false = ap (λ t. t == id) (eqb-true g.template q parts.0) ∙ apart in
          rw (here, other) (without_other q id k gs apart)
      | inr stays ↦
          rw stays (elim (cases_Bool (g.template == id)) [
            | inl own ↦ rw own (ap (λ xs. g.place ∷ xs) (without_other q id k gs apart))
            | inr other ↦ rw other (without_other q id k gs apart)
          ])
    ]

run_step : (first : Board) (new : List Incoming) (c : Board) (id : ℕ) (e : Task) (o p : Option ℕ) (taking : Bool) → is_taken first new c.gone o p ≡ taking
    → e.parent ≡ (if taking then o else None) → e.imask ≡ (if taking then p else None) → IsRun (places c id)
    → IsRun (gone_places id (if taking then without_taken c.gone o p else c.gone) ++ instance_places id (c.tasks ++ e ∷ []))
run_step first new c id e o p false is parent imask run = rw (instance_places-push id c.tasks e, parent, append-nil (instance_places id c.tasks)) run
run_step first new c id e None p true is parent imask run = absurd (true≢false (sym is))
run_step first new c id e (Some q) None true is parent imask run = absurd (true≢false (sym is))
run_step first new c id e (Some q) (Some k) true is parent imask run =
    let there = (and_true (is_parent first new q) (is_gone c.gone q k) is).1 in
    elim (cases_Bool (q == id)) [
      | inl own ↦
          let same : q ≡ id = eqb-true q id own in
          let among : list_any (is_number k) (gone_places id c.gone) ≡ true = sym (gone_listed id k c.gone) ∙ ap (λ r. is_gone c.gone r k) (sym same) ∙ there in
          let left : gone_places id (without_place q k c.gone) ≡ others k (gone_places id c.gone) =
          ap (λ r. gone_places id (without_place r k c.gone)) same ∙ without_own id k c.gone in
          rw (instance_places-push id c.tasks e, parent, imask, own, left) (run_moved k (gone_places id c.gone) (instance_places id c.tasks) among run)
      | inr other ↦ rw (instance_places-push id c.tasks e, parent, other, append-nil (instance_places id c.tasks), without_other q id k c.gone other) run
    ]

pub runs_all : (first : Board) (new : List Incoming) (c : Board) (is : List Incoming) → HasRuns c → HasRuns (with_all first new c is)
runs_all first new c [] runs = runs
runs_all first new c (i ∷ is) runs =
    runs_all first new (with_new first new c i) is
    (λ id. run_step first new c id (entered first new (takes first new c.gone i) i) i.raw_parent i.raw_imask (takes first new c.gone i) refl refl refl (runs id))
