-- The place of the first item that passes a test.
use Rattle.std.proofs.Common.{◌≡◌, ℕ, suc, ◌+◌, Bool, true, false, List, [], ◌∷◌, Option, Some, None, get_or, set, position, refl, sym, ◌∙◌, ap, arith, MatchOption, subst, inl, inr}
use Rattle.std.specs.List.{position_from}
use Rattle.std.proofs.lemmas.Bool.{cases_Bool}
use Rattle.std.proofs.lemmas.Iterator.Adapters.{position_from-zero}
use Rattle.tb_board.specs.First.{change_first, IsFirst, IsNone}

place_here : {A : Type 0} (test : A → Bool) (x : A) (xs : List A) → test x ≡ true → IsFirst test (x ∷ xs) 0
place_here test x xs here =
    record {
      within = omega arith;
      found = λ d. rw here refl;
      passes = λ d. here;
      stands = rw here refl;
      changed = λ f d. rw here refl;
      removed = rw here refl;
    }

place_next : {A : Type 0} (test : A → Bool) (x : A) (xs : List A) (k : ℕ) → test x ≡ false → IsFirst test xs k → IsFirst test (x ∷ xs) (suc k)
place_next test x xs k other p =
    record {
      within = omega (arith, p.within);
      found = λ d. rw other (p.found d);
      passes = λ d. p.passes d;
      stands = rw other p.stands;
      changed = λ f d. rw other (ap (λ ys. x ∷ ys) (p.changed f d));
      removed = rw other (ap (λ ys. x ∷ ys) p.removed);
    }

none_empty : {A : Type 0} (test : A → Bool) → IsNone test []
none_empty test = record { none = refl; found = refl; changed = λ f. refl; removed = refl }

none_next : {A : Type 0} (test : A → Bool) (x : A) (xs : List A) → test x ≡ false → IsNone test xs → IsNone test (x ∷ xs)
none_next test x xs other n =
    record {
      none = rw other n.none;
      found = rw other n.found;
      changed = λ f. rw other (ap (λ ys. x ∷ ys) (n.changed f));
      removed = rw other (ap (λ ys. x ∷ ys) n.removed);
    }

-- a place counted from i
IsFrom : {A : Type 0} → (A → Bool) → ℕ → List A → ℕ → Type 0
IsFrom test i xs k = (j : ℕ) × (k ≡ i + j) × IsFirst test xs j

later : {A : Type 0} (test : A → Bool) (i : ℕ) (x : A) (xs : List A) (o : Option ℕ) → test x ≡ false
    → MatchOption o (IsNone test xs) (IsFrom test (i + 1) xs)
    → MatchOption o (IsNone test (x ∷ xs)) (IsFrom test i (x ∷ xs))
unfolding IsFrom
later test i x xs None other h = none_next test x xs other h
later test i x xs (Some k) other (j, e, p) = (suc j, omega arith, place_next test x xs j other p)

place_from : {A : Type 0} (test : A → Bool) (i : ℕ) (xs : List A) → MatchOption (position_from test i xs) (IsNone test xs) (IsFrom test i xs)
unfolding IsFrom
place_from test i [] = none_empty test
place_from test i (x ∷ xs) =
    elim (cases_Bool (test x)) [
      | inl here ↦ rw here (0, omega arith, place_here test x xs here)
      | inr other ↦ rw other (later test i x xs (position_from test (i + 1) xs) other (place_from test (i + 1) xs))
    ]

from_zero : {A : Type 0} (test : A → Bool) (xs : List A) (o : Option ℕ)
    → MatchOption o (IsNone test xs) (IsFrom test 0 xs) → MatchOption o (IsNone test xs) (IsFirst test xs)
unfolding IsFrom
from_zero test xs None h = h
from_zero test xs (Some k) (j, e, p) = let same : k ≡ j = omega arith in subst (IsFirst test xs) (sym same) p

pub place : {A : Type 0} (test : A → Bool) (xs : List A) → MatchOption (position test xs) (IsNone test xs) (IsFirst test xs)
place test xs =
    from_zero test xs (position test xs)
    (subst (λ o. MatchOption o (IsNone test xs) (IsFrom test 0 xs)) (sym (position_from-zero test xs)) (place_from test 0 xs))

pub changed_there : {A : Type 0} (test : A → Bool) (f : A → A) (xs : List A) (k : ℕ) (x : A) → IsFirst test xs k → x ≡ get_or xs k x
    → set xs k (f x) ≡ change_first test f xs
changed_there test f xs k x first is = sym (first.changed f x ∙ ap (λ y. set xs k (f y)) (sym is))
