-- Numbers of a run, one of which moves to the end.
use Rattle.std.proofs.Common.{◌≡◌, ℕ, zero, suc, ◌+◌, ◌<◌, ◌≤◌, ◌==◌, ◌||◌, nat_eq, not, Bool, true, false, true≢false, List, [], ◌∷◌, ◌++◌, filter, length, refl, sym, ◌∙◌, ap, arith, subst, inl, inr, append_assoc, length-append}
use Rattle.std.specs.Cmp.{nat_eq_equiv}
use Rattle.std.specs.List.{AllByRecursion, IsDistinct, list_any, range_with_len}
use Rattle.std.proofs.lemmas.Bool.{cases_Bool, eqb-false, eqb-true, ne_eqb}
use Rattle.std.proofs.lemmas.List.Elements.{filter-append}
use Rattle.std.proofs.lemmas.List.Folds.{list_any-append}
use Rattle.std.proofs.lemmas.List.FromFn.{length-range_with_len}
use Rattle.std.proofs.lemmas.Map.Keys.{IsDistinct-push}
use Rattle.tb_board.proofs.Goodness.{all_push}
use Rattle.tb_board.specs.Templates.{IsRun}

abbrev pub is_number : ℕ → ℕ → Bool
is_number k x = x == k

-- the numbers but k
abbrev pub others : ℕ → List ℕ → List ℕ
others k xs = filter (λ x. not (x == k)) xs

pub or_parts : (p q : Bool) → (p || q) ≡ false → (p ≡ false) × (q ≡ false)
or_parts true q h = absurd (true≢false h)
or_parts false q h = (refl, h)

pub or_left : (p q : Bool) → p ≡ true → (p || q) ≡ true
or_left true q h = refl
or_left false q h = absurd (true≢false (sym h))

pub or_right : (p q : Bool) → q ≡ true → (p || q) ≡ true
or_right true q h = refl
or_right false q h = h

all_others : (P : ℕ → Type 0) (k : ℕ) (xs : List ℕ) → AllByRecursion P xs → AllByRecursion P (others k xs)
all_others P k [] h = h
all_others P k (x ∷ xs) h =
    elim (cases_Bool (x == k)) [
      | inl here ↦ rw here (all_others P k xs h.1)
      | inr other ↦ rw other (h.0, all_others P k xs h.1)
    ]

distinct_others : (k : ℕ) (xs : List ℕ) → IsDistinct nat_eq xs → IsDistinct nat_eq (others k xs)
unfolding IsDistinct
distinct_others k [] h = h
distinct_others k (x ∷ xs) h =
    elim (cases_Bool (x == k)) [
      | inl here ↦ rw here (distinct_others k xs h.1)
      | inr other ↦ rw other (all_others (λ y. nat_eq x y ≡ false) k xs h.0, distinct_others k xs h.1)
    ]

absent : (k : ℕ) (xs : List ℕ) → list_any (is_number k) xs ≡ false → others k xs ≡ xs
absent k [] h = refl
absent k (x ∷ xs) h =
    let parts = or_parts (x == k) (list_any (is_number k) xs) h in
    rw parts.0 (ap (λ ys. x ∷ ys) (absent k xs parts.1))

none_left : (k : ℕ) (xs : List ℕ) → list_any (nat_eq k) (others k xs) ≡ false
none_left k [] = refl
none_left k (x ∷ xs) =
    elim (cases_Bool (x == k)) [
      | inl here ↦ rw here (none_left k xs)
      | inr other ↦ let apart : nat_eq k x ≡ false = ne_eqb k x (λ same. eqb-false x k other (sym same)) in rw (other, apart) (none_left k xs)
    ]

pub absent_from : (x k : ℕ) (ys : List ℕ) → (x == k) ≡ true → AllByRecursion (λ y. nat_eq x y ≡ false) ys → list_any (is_number k) ys ≡ false
absent_from x k [] same h = refl
absent_from x k (y ∷ ys) same h =
    let apart : (y == k) ≡ false = ne_eqb y k (λ is. eqb-false x y h.0 (eqb-true x k same ∙ sym is)) in
    rw apart (absent_from x k ys same h.1)

length_others : (k : ℕ) (xs : List ℕ) → IsDistinct nat_eq xs → list_any (is_number k) xs ≡ true → length (others k xs) + 1 ≡ length xs
unfolding IsDistinct
length_others k [] h there = absurd (true≢false (sym there))
length_others k (x ∷ xs) h there =
    elim (cases_Bool (x == k)) [
      | inl here ↦ rw (here, absent k xs (absent_from x k xs here h.0)) (omega arith)
      | inr other ↦
          let later : list_any (is_number k) xs ≡ true = rw other at there in
          let rest = length_others k xs h.1 later in
          rw other (omega (arith, rest))
    ]

below_one : (k n : ℕ) (xs : List ℕ) → AllByRecursion (λ x. x < n) xs → list_any (is_number k) xs ≡ true → k < n
below_one k n [] h there = absurd (true≢false (sym there))
below_one k n (x ∷ xs) h there =
    elim (cases_Bool (x == k)) [
      | inl here ↦ subst (λ y. y < n) (eqb-true x k here) h.0
      | inr other ↦ let later : list_any (is_number k) xs ≡ true = rw other at there in below_one k n xs h.1 later
    ]

pub apart_from : (k : ℕ) (xs ys : List ℕ) → IsDistinct nat_eq (xs ++ ys) → list_any (is_number k) xs ≡ true → list_any (is_number k) ys ≡ false
unfolding IsDistinct
apart_from k [] ys h there = absurd (true≢false (sym there))
apart_from k (x ∷ xs) ys h there =
    elim (cases_Bool (x == k)) [
      | inl here ↦
          (or_parts (list_any (is_number k) xs) (list_any (is_number k) ys) (sym (list_any-append (is_number k) xs ys) ∙ absent_from x k (xs ++ ys) here h.0)).1
      | inr other ↦ let later : list_any (is_number k) xs ≡ true = rw other at there in apart_from k xs ys h.1 later
    ]

run_last : (k : ℕ) (zs : List ℕ) → list_any (is_number k) zs ≡ true → IsRun zs → IsRun (others k zs ++ k ∷ [])
run_last k zs there run =
    let size : length (others k zs ++ k ∷ []) ≡ length zs = omega (arith, length-append (others k zs) (k ∷ []), length_others k zs run.distinct there) in
    record {
      distinct = IsDistinct-push nat_eq_equiv (others k zs) k (distinct_others k zs run.distinct) (none_left k zs);
      below = subst (λ n. AllByRecursion (λ x. x < n) (others k zs ++ k ∷ [])) (sym size)
          (all_push (λ x. x < length zs) (others k zs) k (all_others (λ x. x < length zs) k zs run.below) (below_one k (length zs) zs run.below there));
    }

-- a number of the first list moves to the end of the second
pub run_moved : (k : ℕ) (xs ys : List ℕ) → list_any (is_number k) xs ≡ true → IsRun (xs ++ ys) → IsRun (others k xs ++ (ys ++ k ∷ []))
run_moved k xs ys there run =
    let among : list_any (is_number k) (xs ++ ys) ≡ true = list_any-append (is_number k) xs ys ∙ or_left (list_any (is_number k) xs) (list_any (is_number k) ys) there in
    let parts : others k (xs ++ ys) ≡ others k xs ++ ys =
    filter-append (λ x. not (x == k)) xs ys ∙ ap (λ zs. others k xs ++ zs) (absent k ys (apart_from k xs ys run.distinct there)) in
    subst IsRun (ap (λ zs. zs ++ k ∷ []) parts ∙ append_assoc (others k xs) ys (k ∷ [])) (run_last k (xs ++ ys) among run)

above_one : (a b n : ℕ) → b < a → AllByRecursion (λ y. nat_eq b y ≡ false) (range_with_len a n)
above_one a b zero h = tt
above_one a b (suc n) h = (ne_eqb b a (λ same. omega (arith, same, h)), above_one (a + 1) b n (omega (arith, h)))

range_distinct : (a n : ℕ) → IsDistinct nat_eq (range_with_len a n)
unfolding IsDistinct
range_distinct a zero = tt
range_distinct a (suc n) = (above_one (a + 1) a n (omega arith), range_distinct (a + 1) n)

range_below : (a n m : ℕ) → a + n ≤ m → AllByRecursion (λ x. x < m) (range_with_len a n)
range_below a zero m h = tt
range_below a (suc n) m h = (omega (arith, h), range_below (a + 1) n m (omega (arith, h)))

-- the numbers below n
pub run_range : (n : ℕ) → IsRun (range_with_len 0 n)
run_range n =
    record {
      distinct = range_distinct 0 n;
      below = subst (λ m. AllByRecursion (λ x. x < m) (range_with_len 0 n)) (sym (length-range_with_len 0 n)) (range_below 0 n n (omega arith));
    }
