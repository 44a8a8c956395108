-- A new role at its place in the order of roles.
use Rattle.std.proofs.Common.{◌≡◌, ℕ, suc, ◌+◌, ◌≤◌, nat_lt, cond, List, [], ◌∷◌, Some, None, insert, length, refl, ◌∙◌, ap, arith, inl, inr}
use Rattle.std.specs.Cmp.{IsTotalOrder}
use Rattle.std.specs.List.{position, position_or_len}
use Rattle.std.proofs.lemmas.Bool.{cases_Bool, ltb-false}
use Rattle.std.proofs.lemmas.Cmp.{nat_cmp_total, on_total, then_total}
use Rattle.tb_board.specs.declared.world.RoleOn.{RoleOn}
use Rattle.tb_board.specs.Roles.{comes_before, role_order, with_new_role}

pub role_total : IsTotalOrder role_order
role_total = then_total (on_total (λ (r : RoleOn). r.board) nat_cmp_total) (on_total (λ (r : RoleOn). r.person) nat_cmp_total)

-- how many roles stand before the first that comes after r
abbrev first_place : RoleOn → List RoleOn → ℕ
first_place r rs = position_or_len (comes_before r) rs

within : (r : RoleOn) (rs : List RoleOn) → first_place r rs ≤ length rs
within r [] = omega arith
within r (s ∷ ss) =
    elim (cases_Bool (comes_before r s)) [
      | inl here ↦ rw here (omega arith)
      | inr other ↦ rw other (omega (arith, within r ss))
    ]

at_place : (r : RoleOn) (rs : List RoleOn) → insert rs (first_place r rs) r ≡ with_new_role rs r
at_place r [] = refl
at_place r (s ∷ ss) =
    elim (cases_Bool (comes_before r s)) [
      | inl here ↦ rw here refl
      | inr other ↦
          let next : 1 + first_place r ss ≡ suc (first_place r ss) = omega arith in
          rw (other, next) (ap (λ ys. s ∷ ys) (at_place r ss))
    ]

some_place : (n size k : ℕ) → Some k ≡ cond (nat_lt n size) (Some n) None → k ≡ n
some_place n size k h =
    elim (cases_Bool (nat_lt n size)) [
      | inl inside ↦ let is : Some k ≡ Some n = rw inside at h in cc
      | inr beyond ↦ let wrong : Some k ≡ None = rw beyond at h in absurd (cc)
    ]

no_place : (n size : ℕ) → None ≡ cond (nat_lt n size) (Some n) None → n ≤ size → size ≡ n
no_place n size h le =
    elim (cases_Bool (nat_lt n size)) [
      | inl inside ↦ let wrong : None ≡ Some n = rw inside at h in absurd (cc)
      | inr beyond ↦ omega (arith, le, ltb-false n size beyond)
    ]

pub within_found : (r : RoleOn) (rs : List RoleOn) (k : ℕ) → Some k ≡ position (comes_before r) rs → k ≤ length rs
within_found r rs k h = omega (arith, some_place (first_place r rs) (length rs) k h, within r rs)

pub new_found : (r : RoleOn) (rs : List RoleOn) (k : ℕ) → Some k ≡ position (comes_before r) rs → insert rs k r ≡ with_new_role rs r
new_found r rs k h = ap (λ i. insert rs i r) (some_place (first_place r rs) (length rs) k h) ∙ at_place r rs

pub new_last : (r : RoleOn) (rs : List RoleOn) → None ≡ position (comes_before r) rs → insert rs (length rs) r ≡ with_new_role rs r
new_last r rs h = ap (λ i. insert rs i r) (no_place (first_place r rs) (length rs) h (within r rs)) ∙ at_place r rs
