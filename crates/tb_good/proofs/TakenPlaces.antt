-- The places of all templates, taken together.
use Rattle.std.proofs.Common.{◌≡◌, ◌<◌, ◌↔◌, ℕ, ◌==◌, ◌&&◌, nat_eq, Bool, true, false, List, [], ◌∷◌, ◌++◌, Option, Some, None, if◌then◌else◌, length, map, refl, sym, ◌∙◌, ap, ap₂, subst, inl, inr, nat_cmp}
use Rattle.std.specs.Cmp.{nat_eq_equiv}
use Rattle.std.specs.List.{AllByRecursion, cons_option, filter_map, IsDistinct}
use Rattle.std.specs.Ordering.{eq_by_cmp, ordering_then}
use Rattle.std.specs.declared.cmp.Ordering.{Ordering}
use Rattle.std.proofs.lemmas.Bool.{cases_Bool, eqb-true}
use Rattle.tb_task.specs.declared.task.Task.{Task}
use Rattle.tb_board.specs.declared.board.Board.{Board}
use Rattle.tb_board.specs.declared.gone.Gone.{Gone}
use Rattle.tb_board.specs.Instances.{HasRuns}
use Rattle.tb_board.specs.InstancePlaces.{instance_places, is_id, with_place}
use Rattle.tb_board.specs.Templates.{gone_places, IsRun, places}
use Rattle.tb_board.proofs.Pairs.{same_pair}
use Rattle.tb_good.specs.Taken.{gone_place, instance_place, IsBelowCount, places_among, taken, with_parent}

-- by templates, and then by places
abbrev pub pair_cmp : ℕ × ℕ → ℕ × ℕ → Ordering
pair_cmp p q = ordering_then (nat_cmp p.0 q.0) (nat_cmp p.1 q.1)

abbrev is_same : ℕ × ℕ → ℕ × ℕ → Bool
is_same p q = eq_by_cmp pair_cmp p q

same_is : (p q : ℕ × ℕ) → is_same p q ≡ ((q.0 == p.0) && (p.1 == q.1))
same_is p q = same_pair p.0 q.0 p.1 q.1 ∙ ap (λ b. b && (p.1 == q.1)) (nat_eq_equiv.symm p.0 q.0)

-- ---- no place twice

apart_there : (p : ℕ × ℕ) (qs : List (ℕ × ℕ)) → AllByRecursion (λ q. is_same p q ≡ false) qs → AllByRecursion (λ k. nat_eq p.1 k ≡ false) (places_among p.0 qs)
apart_there p [] h = tt
apart_there p (q ∷ qs) h =
    elim (cases_Bool (q.0 == p.0)) [
      | inl here ↦
          let parts : ((q.0 == p.0) && (p.1 == q.1)) ≡ false = sym (same_is p q) ∙ h.0 in
          let apart : nat_eq p.1 q.1 ≡ false = rw here at parts in
          rw here (apart, apart_there p qs h.1)
      | inr other ↦ rw other (apart_there p qs h.1)
    ]

apart_back : (p : ℕ × ℕ) (qs : List (ℕ × ℕ)) → AllByRecursion (λ k. nat_eq p.1 k ≡ false) (places_among p.0 qs) → AllByRecursion (λ q. is_same p q ≡ false) qs
apart_back p [] h = tt
apart_back p (q ∷ qs) h =
    elim (cases_Bool (q.0 == p.0)) [
      | inl here ↦
          let both : AllByRecursion (λ k. nat_eq p.1 k ≡ false) (q.1 ∷ places_among p.0 qs) = rw here at h in
          let parts : ((q.0 == p.0) && (p.1 == q.1)) ≡ false = rw here both.0 in
          (same_is p q ∙ parts, apart_back p qs both.1)
      | inr other ↦
          let rest : AllByRecursion (λ k. nat_eq p.1 k ≡ false) (places_among p.0 qs) = rw other at h in
          let parts : ((q.0 == p.0) && (p.1 == q.1)) ≡ false = rw other refl in
          (same_is p q ∙ parts, apart_back p qs rest)
    ]

distinct_among : (id : ℕ) (ps : List (ℕ × ℕ)) → IsDistinct is_same ps → IsDistinct nat_eq (places_among id ps)
unfolding IsDistinct
distinct_among id [] h = tt
distinct_among id (p ∷ ps) h =
    elim (cases_Bool (p.0 == id)) [
      | inl here ↦
          let apart : AllByRecursion (λ k. nat_eq p.1 k ≡ false) (places_among id ps) =
          subst (λ i. AllByRecursion (λ k. nat_eq p.1 k ≡ false) (places_among i ps)) (eqb-true p.0 id here) (apart_there p ps h.0) in
          rw here (apart, distinct_among id ps h.1)
      | inr other ↦ rw other (distinct_among id ps h.1)
    ]

tail_distinct : (id : ℕ) (p : ℕ × ℕ) (ps : List (ℕ × ℕ)) → IsDistinct nat_eq (places_among id (p ∷ ps)) → IsDistinct nat_eq (places_among id ps)
unfolding IsDistinct
tail_distinct id p ps h =
    elim (cases_Bool (p.0 == id)) [
      | inl here ↦ let both : IsDistinct nat_eq (p.1 ∷ places_among id ps) = rw here at h in both.1
      | inr other ↦ rw other at h
    ]

distinct_from : (ps : List (ℕ × ℕ)) → ((id : ℕ) → IsDistinct nat_eq (places_among id ps)) → IsDistinct is_same ps
unfolding IsDistinct
distinct_from [] h = tt
distinct_from (p ∷ ps) h =
    let own : (p.0 == p.0) ≡ true = nat_eq_equiv.refl p.0 in
    let mine : IsDistinct nat_eq (places_among p.0 (p ∷ ps)) = h p.0 in
    let both : IsDistinct nat_eq (p.1 ∷ places_among p.0 ps) = rw own at mine in
    (apart_back p ps both.0, distinct_from ps (λ id. tail_distinct id p ps (h id)))

-- ---- each place below a number of its template

below_among : (most : ℕ → ℕ) (id : ℕ) (ps : List (ℕ × ℕ)) → AllByRecursion (λ (p : ℕ × ℕ). p.1 < most p.0) ps → AllByRecursion (λ k. k < most id) (places_among id ps)
below_among most id [] h = tt
below_among most id (p ∷ ps) h =
    elim (cases_Bool (p.0 == id)) [
      | inl here ↦ rw here (subst (λ i. p.1 < most i) (eqb-true p.0 id here) h.0, below_among most id ps h.1)
      | inr other ↦ rw other (below_among most id ps h.1)
    ]

tail_below : (most : ℕ → ℕ) (id : ℕ) (p : ℕ × ℕ) (ps : List (ℕ × ℕ)) → AllByRecursion (λ k. k < most id) (places_among id (p ∷ ps)) → AllByRecursion (λ k. k < most id) (places_among id ps)
tail_below most id p ps h =
    elim (cases_Bool (p.0 == id)) [
      | inl here ↦ let both : AllByRecursion (λ k. k < most id) (p.1 ∷ places_among id ps) = rw here at h in both.1
      | inr other ↦ rw other at h
    ]

below_from : (most : ℕ → ℕ) (ps : List (ℕ × ℕ)) → ((id : ℕ) → AllByRecursion (λ k. k < most id) (places_among id ps)) → AllByRecursion (λ (p : ℕ × ℕ). p.1 < most p.0) ps
below_from most [] h = tt
below_from most (p ∷ ps) h =
    let own : (p.0 == p.0) ≡ true = nat_eq_equiv.refl p.0 in
    let mine : AllByRecursion (λ k. k < most p.0) (places_among p.0 (p ∷ ps)) = h p.0 in
    let both : AllByRecursion (λ k. k < most p.0) (p.1 ∷ places_among p.0 ps) = rw own at mine in
    (both.0, below_from most ps (λ id. tail_below most id p ps (h id)))

-- ---- the places of a board

pub among-append : (id : ℕ) (ps qs : List (ℕ × ℕ)) → places_among id (ps ++ qs) ≡ places_among id ps ++ places_among id qs
among-append id [] qs = refl
among-append id (p ∷ ps) qs =
    elim (cases_Bool (p.0 == id)) [
      | inl here ↦ rw here (ap (λ ks. p.1 ∷ ks) (among-append id ps qs))
      | inr other ↦ rw other (among-append id ps qs)
    ]

gone_are : (id : ℕ) (gs : List Gone) → places_among id (map gone_place gs) ≡ gone_places id gs
gone_are id [] = refl
gone_are id (g ∷ gs) =
    elim (cases_Bool (g.template == id)) [
      | inl here ↦ rw here (ap (λ ks. g.place ∷ ks) (gone_are id gs))
      | inr other ↦ rw other (gone_are id gs)
    ]

one_is : (id : ℕ) (parent place : Option ℕ) (ps : List (ℕ × ℕ))
    → places_among id (cons_option (with_parent parent place) ps) ≡ with_place (if is_id id parent then place else None) (places_among id ps)
one_is id None place ps = refl
one_is id (Some other) None ps =
    elim (cases_Bool (other == id)) [
      | inl here ↦ rw here refl
      | inr apart ↦ rw apart refl
    ]
one_is id (Some other) (Some place) ps =
    elim (cases_Bool (other == id)) [
      | inl here ↦ rw here refl
      | inr apart ↦ rw apart refl
    ]

instances_are : (id : ℕ) (ts : List Task) → places_among id (filter_map instance_place ts) ≡ instance_places id ts
instances_are id [] = refl
instances_are id (t ∷ ts) =
    one_is id t.parent t.imask (filter_map instance_place ts)
    ∙ ap (with_place (if is_id id t.parent then t.imask else None)) (instances_are id ts)

pub places_are : (b : Board) (id : ℕ) → places_among id (taken b) ≡ places b id
places_are b id =
    among-append id (map gone_place b.gone) (filter_map instance_place b.tasks) ∙ ap₂ (λ xs ys. xs ++ ys) (gone_are id b.gone) (instances_are id b.tasks)

-- ---- runs

runs_from : (b : Board) → IsDistinct is_same (taken b) → AllByRecursion (IsBelowCount (taken b)) (taken b) → HasRuns b
runs_from b apart below id =
    subst IsRun (places_are b id) (record {
      distinct = distinct_among id (taken b) apart;
      below = below_among (λ i. length (places_among i (taken b))) id (taken b) below;
    })

run_among : (b : Board) → HasRuns b → (id : ℕ) → IsRun (places_among id (taken b))
run_among b runs id = subst IsRun (sym (places_are b id)) (runs id)

-- each template has a run where no place is taken twice and each is below the number of its template's
pub runs_tell : (b : Board) → HasRuns b ↔ (IsDistinct (eq_by_cmp pair_cmp) (taken b) × AllByRecursion (IsBelowCount (taken b)) (taken b))
runs_tell b = (
  λ runs. (
    distinct_from (taken b) (λ id. (run_among b runs id).distinct),
    below_from (λ i. length (places_among i (taken b))) (taken b) (λ id. (run_among b runs id).below),
  ),
  λ both. runs_from b both.0 both.1,
)
