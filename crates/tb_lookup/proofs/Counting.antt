-- How many there are, by halves.
use Rattle.std.proofs.Common.{◌≡◌, ◌∙◌, ◌+◌, ◌<◌, ◌≤◌, ◌==◌, ℕ, Bool, true, false, List, [], ◌∷◌, length, sym, subst, arith, inl, inr, IsPermutation}
use Rattle.std.specs.List.{list_any}
use Rattle.std.proofs.lemmas.Bool.{cases_Bool, eqb-true, eqb-false}
use Rattle.std.proofs.lemmas.Bool.Decides.{eqb_tells}
use Rattle.std.proofs.lemmas.List.Sorted.{list_any-IsPermutation}
use Rattle.sqlite.specs.State.{State as Database}
use Rattle.tb_calls.specs.Call.{State}
use Rattle.tb_sql.specs.Opening.{IsAsBefore}
use Rattle.tb_lookup.specs.Reopening.{OfState}
use Rattle.tb_lookup.proofs.Standing.{stored_again}
use Rattle.tb_lookup.proofs.Within.{IsWithin}

module _ (count : State → ℕ) where
  -- so many at least, and fewer than so many
  abbrev pub AreBetween : ℕ → ℕ → State → Type 0
  AreBetween low above s = (low ≤ count s) × (count s < above)

  module _ (start before after : Database) (low above middle : ℕ) (was : IsAsBefore start before) (idle : before.in_transaction ≡ false) (is : IsAsBefore before after) (between : OfState start before (AreBetween low above)) where
    -- with one of the number in the middle there are more
    pub higher : OfState before after (λ s. IsWithin middle (count s) true) → OfState start after (AreBetween middle above)
    higher there clean s stored = (there clean s (stored_again s start before stored was idle), (between (is.clean clean) s stored).1)

    -- and without it fewer
    pub lower : OfState before after (λ s. IsWithin middle (count s) false) → OfState start after (AreBetween low middle)
    lower there clean s stored = ((between (is.clean clean) s stored).0, there clean s (stored_again s start before stored was idle))

  -- between two that follow each other
  pub at_last : (start now : Database) (low above : ℕ) → above ≤ low + 1 → OfState start now (AreBetween low above) → OfState start now (λ s. low ≡ count s)
  at_last start now low above close between clean s stored = let at = between clean s stored in let from = at.0 in let to = at.1 in omega (arith, from, to, close)

-- ---- things that are numbered in turn

module _ {X : Type 0} (number : X → ℕ) where
  abbrev pub AreNumbered : ℕ → List X → Type 0
  AreNumbered n [] = Unit {0}
  AreNumbered n (x ∷ xs) = (number x ≡ n) × AreNumbered (n + 1) xs

  one_within : (k n : ℕ) (xs : List X) → AreNumbered n xs → n ≤ k → IsWithin (k + 1) (n + length xs) (list_any (λ x. number x == k) xs)
  one_within k n [] numbered from = omega (arith, from)
  one_within k n (x ∷ xs) numbered from = elim (cases_Bool (number x == k)) [
    | inl here ↦ rw here (omega (arith, numbered.0, eqb-true (number x) k here))
    | inr other ↦
        let apart : n ≡ k → ⊥ = elim (eqb_tells (number x) k) [ inl same ↦ absurd (eqb-false (number x) k other same.1) | inr apart ↦ λ is. apart.1 (numbered.0 ∙ is) ] in
        rw other (subst (λ count. IsWithin (k + 1) count (list_any (λ x. number x == k) xs)) (omega arith) (one_within k (n + 1) xs numbered.1 (omega (arith, apart, from))))
  ]

  -- there is one of a number exactly where there are so many
  pub within_any : (k : ℕ) (rows xs : List X) → IsPermutation rows xs → AreNumbered 1 xs → 1 ≤ k → (there : Bool) → there ≡ list_any (λ x. number x == k) rows → IsWithin k (length xs) there
  within_any k rows xs same numbered from there is =
      let any : list_any (λ x. number x == k) xs ≡ there = sym (is ∙ list_any-IsPermutation (λ x. number x == k) rows xs same) in
      one_less there (subst (IsWithin (k + 1) (1 + length xs)) any (one_within k 1 xs numbered from))
    where
      one_less : (there : Bool) → IsWithin (k + 1) (1 + length xs) there → IsWithin k (length xs) there
      one_less true h = omega (arith, h)
      one_less false h = omega (arith, h)
