-- Boards with the numbers from 1 on.
use Rattle.std.proofs.Common.{◌≡◌, ℕ, zero, suc, ◌+◌, ◌<◌, nat_lt, List, [], ◌∷◌, length, get_or, refl, sym, ◌∙◌, ap, ap₂, arith, inl, inr, subst}
use Rattle.std.specs.List.{range_with_len}
use Rattle.std.proofs.lemmas.Bool.{cases_Bool, ltb-false, ltb-true}
use Rattle.std.proofs.lemmas.List.{get_or-map}
use Rattle.std.proofs.lemmas.List.Elements.{at_read}
use Rattle.std.proofs.lemmas.List.FromFn.{get_or-range_with_len}
use Rattle.tb_board.specs.declared.board.Board.{Board}
use Rattle.tb_core.specs.GoodWorld.{numbers}

-- the boards before place i have the numbers from n on
abbrev pub AreFrom : ℕ → List Board → ℕ → Type 0
AreFrom n bs i = (k : ℕ) (d : Board) → k < i → (get_or bs k d).number ≡ n + k

pub numbered_from : (n : ℕ) (bs : List Board) → AreFrom n bs (length bs) → numbers bs ≡ range_with_len n (length bs)
numbered_from n [] h = refl
numbered_from n (b ∷ bs) h =
    let first : b.number ≡ n = h zero b (omega arith) ∙ (omega arith) in
    ap₂ (λ x xs. x ∷ xs) first (numbered_from (n + 1) bs (λ k d within. h (suc k) d (omega (arith, within)) ∙ (omega arith)))

pub numbered_at : (n : ℕ) (bs : List Board) → numbers bs ≡ range_with_len n (length bs) → AreFrom n bs (length bs)
numbered_at n bs same k d within =
    sym (get_or-map (λ (b : Board). b.number) bs k d d.number within) ∙ ap (λ l. get_or l k d.number) same
    ∙ get_or-range_with_len n (length bs) k d.number within

-- one board more
pub numbered_more : (n : ℕ) (bs : List Board) (i : ℕ) (b : Board) → i < length bs → b ≡ get_or bs i b → b.number ≡ n + i → AreFrom n bs i → AreFrom n bs (i + 1)
numbered_more n bs i b within is here before k d within_k =
    elim (cases_Bool (nat_lt k i)) [
      | inl less ↦ before k d (ltb-true k i less)
      | inr other ↦
          let last : i ≡ k = omega (arith, ltb-false k i other, within_k) in
          subst (λ j. (get_or bs j d).number ≡ n + j) last (at_read bs (λ (c : Board). c.number ≡ n + i) i b within is here d)
    ]
