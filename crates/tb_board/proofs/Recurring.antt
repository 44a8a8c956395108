-- What is noted of templates, where a task comes in or changes.
use Rattle.std.proofs.Common.{◌≡◌, ◌==◌, ◌+◌, ◌<◌, ℕ, suc, zero, Bool, true, false, true≢false, ◌||◌, List, [], ◌∷◌, ◌++◌, length, get_or, set, Option, Some, None, refl, sym, ap, ◌∙◌, subst, inl, inr, arith, length-append, if◌then◌else◌}
use Rattle.std.specs.List.{list_any}
use Rattle.std.specs.Prelude.{unwrap_or, nat_eq}
use Rattle.std.specs.BTreeMap.{BTreeMap, get}
use Rattle.std.specs.Ordering.{nat_cmp, is_eq}
use Rattle.std.proofs.lemmas.Bool.{cases_Bool, eq-eqb, eqb-true}
use Rattle.tb_task.specs.declared.task.Task.{Task}
use Rattle.tb_task.specs.Checks.{is_recurring}
use Rattle.tb_board.specs.InstancePlaces.{instance_places, is_id, place_in, with_place}
use Rattle.tb_board.specs.TemplateIndex.{AreNumbers, HasPlace, HasRecurring, number_in}
use Rattle.tb_board.proofs.Linking.{same_number}

-- ---- places

any_left : (test : ℕ → Bool) (xs ys : List ℕ) → list_any test xs ≡ true → list_any test (xs ++ ys) ≡ true
any_left test [] ys h = absurd (true≢false (sym h))
any_left test (x ∷ xs) ys h =
    elim (cases_Bool (test x)) [
      | inl here ↦ rw here refl
      | inr other ↦ let rest : list_any test xs ≡ true = rw other at h in rw other (any_left test xs ys rest)
    ]

any_last : (n : ℕ) (xs : List ℕ) → HasPlace (xs ++ n ∷ []) n
any_last n [] = rw (eq-eqb n n refl) refl
any_last n (x ∷ xs) =
    elim (cases_Bool (x == n)) [
      | inl here ↦ rw here refl
      | inr other ↦ rw other (any_last n xs)
    ]

-- more places are fine
more_places : (n : ℕ) (ts : List Task) (places more : List ℕ) → HasRecurring n ts places → HasRecurring n ts (places ++ more)
more_places n [] places more has = tt
more_places n (t ∷ ts) places more has =
    (λ recurs. any_left (λ p. p == n) places more (has.0 recurs), more_places (n + 1) ts places more has.1)

last_recurring : (n : ℕ) (ts : List Task) (t : Task) (places : List ℕ) → HasRecurring n ts places → (is_recurring t.status ≡ true → HasPlace places (n + length ts))
    → HasRecurring n (ts ++ t ∷ []) places
last_recurring n [] t places has last = (λ recurs. let here : n + 0 ≡ n = omega arith in subst (HasPlace places) here (last recurs), tt)
last_recurring n (x ∷ xs) t places has last =
    let next : n + suc (length xs) ≡ n + 1 + length xs = omega arith in
    (has.0, last_recurring (n + 1) xs t places has.1 (λ recurs. subst (HasPlace places) next (last recurs)))

-- a task comes last
pub push_recurring : (ts : List Task) (t : Task) (old new : List ℕ) (place : ℕ) → HasRecurring 0 ts old → place ≡ length ts
    → new ≡ (if is_recurring t.status then old ++ place ∷ [] else old) → HasRecurring 0 (ts ++ t ∷ []) new
push_recurring ts t old new place has at is =
    elim (cases_Bool (is_recurring t.status)) [
      | inl here ↦
          let grown : new ≡ old ++ place ∷ [] = rw here at is in
          let end : place ≡ 0 + length ts = omega (arith, at) in
          let last : HasPlace (old ++ place ∷ []) (0 + length ts) = subst (HasPlace (old ++ place ∷ [])) end (any_last place old) in
          subst (HasRecurring 0 (ts ++ t ∷ [])) (sym grown) (last_recurring 0 ts t (old ++ place ∷ []) (more_places 0 ts old (place ∷ []) has) (λ recurs. last))
      | inr other ↦
          let same : new ≡ old = rw other at is in
          subst (HasRecurring 0 (ts ++ t ∷ [])) (sym same) (last_recurring 0 ts t old has (λ recurs. absurd (true≢false (sym recurs ∙ other))))
    ]

-- another one takes its place, and recurs only if it did
pub set_recurring : (n : ℕ) (ts : List Task) (place : ℕ) (old new : Task) (places : List ℕ) → HasRecurring n ts places → old ≡ get_or ts place old
    → (is_recurring new.status ≡ true → is_recurring old.status ≡ true) → HasRecurring n (set ts place new) places
set_recurring n [] place old new places has is recurs = tt
set_recurring n (x ∷ xs) zero old new places has is recurs =
    (λ now. has.0 (subst (λ (u : Task). is_recurring u.status ≡ true) is (recurs now)), has.1)
set_recurring n (x ∷ xs) (suc place) old new places has is recurs =
    (has.0, set_recurring (n + 1) xs place old new places has.1 is recurs)

-- ---- numbers

pub places_last : (id : ℕ) (ts : List Task) (t : Task) → length (instance_places id (ts ++ t ∷ [])) ≡ length (instance_places id ts) + length (instance_places id (t ∷ []))
places_last id [] t = omega arith
places_last id (x ∷ xs) t = joined (place_in id x) (places_last id xs t)
  where
    joined : (o : Option ℕ) → length (instance_places id (xs ++ t ∷ [])) ≡ length (instance_places id xs) + length (instance_places id (t ∷ []))
        → length (with_place o (instance_places id (xs ++ t ∷ []))) ≡ length (with_place o (instance_places id xs)) + length (instance_places id (t ∷ []))
    joined None h = h
    joined (Some k) h = omega (arith, h)

pub push_numbers : (ts : List Task) (t : Task) (old new : BTreeMap ℕ ℕ) → AreNumbers ts old
    → ((id : ℕ) → number_in new id ≡ number_in old id + length (instance_places id (t ∷ []))) → AreNumbers (ts ++ t ∷ []) new
push_numbers ts t old new are more id = more id ∙ ap (λ n. n + length (instance_places id (t ∷ []))) (are id) ∙ sym (places_last id ts t)

-- a task that is an instance of the same template as the one whose place it takes
pub set_places : (id : ℕ) (ts : List Task) (place : ℕ) (old new : Task) → old ≡ get_or ts place old → new.parent ≡ old.parent → new.imask ≡ old.imask
    → instance_places id (set ts place new) ≡ instance_places id ts
set_places id [] place old new is parent imask = refl
set_places id (x ∷ xs) zero old new is parent imask =
    ap (λ o. with_place o (instance_places id xs)) (here ∙ ap (place_in id) is)
  where
    here : place_in id new ≡ place_in id old
    here = rw (parent, imask) refl
set_places id (x ∷ xs) (suc place) old new is parent imask = ap (with_place (place_in id x)) (set_places id xs place old new is parent imask)

-- one instance more
pub one_more : (old new : BTreeMap ℕ ℕ) (template n : ℕ) (t : Task) (k : ℕ) → t.parent ≡ Some template → t.imask ≡ Some k → n ≡ number_in old template + 1
    → ((q : ℕ) → get nat_cmp new q ≡ (if is_eq (nat_cmp template q) then Some n else get nat_cmp old q))
    → (id : ℕ) → number_in new id ≡ number_in old id + length (instance_places id (t ∷ []))
one_more old new template n t k parent imask counted updated id =
    elim (cases_Bool (template == id)) [
      | inl own ↦
          let now : number_in new id ≡ n = ap (λ o. unwrap_or o 0) (updated id) ∙ rw (same_number template id, own) refl in
          let one : length (instance_places id (t ∷ [])) ≡ 1 = rw (parent, own, imask) refl in
          let was : number_in old template ≡ number_in old id = ap (number_in old) (eqb-true template id own) in
          omega (arith, now, one, was, counted)
      | inr other ↦
          let now : number_in new id ≡ number_in old id = ap (λ o. unwrap_or o 0) (updated id) ∙ rw (same_number template id, other) refl in
          let none : length (instance_places id (t ∷ [])) ≡ 0 = rw (parent, other) refl in
          omega (arith, now, none)
    ]
