-- Marks after a mark is set.
use Rattle.std.proofs.Common.{◌≡◌, ◌≢◌, ◌⊎◌, inl, inr, ℕ, zero, suc, ◌+◌, ◌<◌, ◌==◌, Bool, true, false, if◌then◌else◌, List, [], ◌∷◌, length, set, replicate, refl, sym, ap, arith, get_or-set_other, get_or-set_same}
use Rattle.std.proofs.lemmas.Bool.{cases_Bool, eqb-true, eqb-false}
use Rattle.tb_graph.specs.Marks.{is_marked}

-- the nodes without a mark
abbrev pub unmarked : List Bool → ℕ
unmarked [] = 0
unmarked (m ∷ ms) = if m then unmarked ms else 1 + unmarked ms

pub unmarked-set : (marks : List Bool) (t : ℕ) → t < length marks → is_marked marks t ≡ false → unmarked marks ≡ 1 + unmarked (set marks t true)
unmarked-set [] t within none = absurd (omega arith)
unmarked-set (m ∷ ms) zero within none = rw none refl
unmarked-set (true ∷ ms) (suc t) within none = unmarked-set ms t (omega arith) none
unmarked-set (false ∷ ms) (suc t) within none = ap (λ n. 1 + n) (unmarked-set ms t (omega arith) none)

pub mark_here : (marks : List Bool) (t v : ℕ) → t < length marks → t ≡ v → is_marked (set marks t true) v ≡ true
mark_here marks t v within same = rw (← same, get_or-set_same) refl

pub mark_kept : (marks : List Bool) (t v : ℕ) → t < length marks → is_marked marks v ≡ true → is_marked (set marks t true) v ≡ true
mark_kept marks t v within marked =
    elim (cases_Bool (t == v)) [
      | inl same ↦ mark_here marks t v within (eqb-true t v same)
      | inr other ↦ let ne : v ≢ t = λ e. eqb-false t v other (sym e) in rw get_or-set_other marked
    ]

pub mark_only : (marks : List Bool) (t v : ℕ) → is_marked (set marks t true) v ≡ true → (t ≡ v) ⊎ (is_marked marks v ≡ true)
mark_only marks t v marked =
    elim (cases_Bool (t == v)) [
      | inl same ↦ inl (eqb-true t v same)
      | inr other ↦ let ne : v ≢ t = λ e. eqb-false t v other (sym e) in inr (rw get_or-set_other at marked)
    ]

pub unset : (n v : ℕ) → is_marked (replicate n false) v ≡ false
unset zero v = refl
unset (suc n) zero = refl
unset (suc n) (suc v) = unset n v
