-- Which numbers stand for kinds.
use Rattle.std.proofs.Common.{◌≡◌, ◌⊎◌, ℕ, zero, suc, ◌+◌, ◌<◌, ◌≤◌, ◌==◌, Bool, true, false, ◌&&◌, cond, List, [], ◌∷◌, Option, Some, None, nat_le, nat_lt, refl, sym, ◌∙◌, ap, subst, arith, inl, inr, true≢false}
use Rattle.std.specs.Prelude.{IfSome, MatchOption, is_some}
use Rattle.std.specs.List.{find}
use Rattle.std.proofs.lemmas.Bool.{and_parts, cases_Bool, eq-eqb, eqb-true, leb-true, ltb-false, ltb-true}
use Rattle.tb_deeds.specs.declared.kind.DeedKind.{DeedKind}
use Rattle.tb_deeds.specs.declared.kind.DeedKind.TheVariants.{Add}
use Rattle.tb_deeds.specs.Kinds.{all_kinds, kind_of_number, number_of}
use Rattle.tb_history.specs.Laws.{NumbersAreOfKinds}

-- what is found passes
found_passes : {X : Type 0} (p : X → Bool) (xs : List X) → IfSome (find p xs) (λ x. p x ≡ true)
found_passes p [] = tt
found_passes p (y ∷ ys) = by (p y) refl (found_passes p ys)
  where
    by : (b : Bool) → p y ≡ b → IfSome (find p ys) (λ x. p x ≡ true) → IfSome (cond b (Some y) (find p ys)) (λ x. p x ≡ true)
    by true is rest = is
    by false is rest = rest

found_by_number : (n : ℕ) → IfSome (kind_of_number n) (λ kind. (n == number_of kind) ≡ true)
unfolding kind_of_number
found_by_number n = found_passes (λ kind. n == number_of kind) all_kinds

-- ---- each number from 1 to 18 is that of a kind, and no other

number_small : (kind : DeedKind) → (nat_le 1 (number_of kind) && nat_le (number_of kind) 18) ≡ true
number_small Add = refl
number_small _ = refl

abbrev all_some : ℕ → ℕ → Bool
all_some n zero = true
all_some n (suc count) = is_some (kind_of_number n) && all_some (n + 1) count

each_some : (from count : ℕ) → all_some from count ≡ true → (n : ℕ) → from ≤ n → n < from + count → is_some (kind_of_number n) ≡ true
each_some from zero all n low high = absurd (omega (arith, low, high))
each_some from (suc count) all n low high =
    let parts = and_parts (is_some (kind_of_number from)) (all_some (from + 1) count) all in
    elim (cases_Bool (from == n)) [
      | inl same ↦ subst (λ k. is_some (kind_of_number k) ≡ true) (eqb-true from n same) parts.0
      | inr other ↦
          let apart : from ≡ n → ⊥ = λ same. true≢false (sym (eq-eqb from n same) ∙ other) in
          each_some (from + 1) count parts.1 n (omega (arith, low, apart)) (omega (arith, high))
    ]

eighteen : all_some 1 18 ≡ true
unfolding kind_of_number
eighteen = refl

outside : (n : ℕ) → is_some (kind_of_number n) ≡ false → (n ≡ 0) ⊎ (18 < n)
outside zero none = inl refl
outside (suc n) none =
    elim (cases_Bool (nat_lt 18 (suc n))) [
      | inl more ↦ inr (ltb-true 18 (suc n) more)
      | inr few ↦
          let within : suc n ≤ 18 = ltb-false 18 (suc n) few in
          absurd (true≢false (sym (each_some 1 18 eighteen (suc n) (omega arith) (omega (arith, within))) ∙ none))
    ]

by_kind : (n : ℕ) (found : Option DeedKind) → kind_of_number n ≡ found → IfSome found (λ kind. (n == number_of kind) ≡ true)
    → MatchOption found ((n ≡ 0) ⊎ (18 < n)) (λ kind. (number_of kind ≡ n) × (1 ≤ n) × (n ≤ 18))
by_kind n None is passes = outside n (ap is_some is)
by_kind n (Some kind) is passes =
    let same : n ≡ number_of kind = eqb-true n (number_of kind) passes in
    let small = and_parts _ _ (number_small kind) in
    let low : 1 ≤ number_of kind = leb-true 1 (number_of kind) small.0 in
    let high : number_of kind ≤ 18 = leb-true (number_of kind) 18 small.1 in
    (sym same, omega (arith, same, low), omega (arith, same, high))

pub numbers_of_kinds : NumbersAreOfKinds
numbers_of_kinds n = by_kind n (kind_of_number n) refl (found_by_number n)
