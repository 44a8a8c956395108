-- A board that looks one ahead wants what is wanted at once.
use Rattle.std.proofs.Common.{◌≡◌, ℕ, zero, suc, ◌+◌, ◌-◌, Bool, true, false, ◌&&◌, nat_lt, if◌then◌else◌, refl, ap, arith, inl, inr}
use Rattle.std.proofs.lemmas.Bool.{cases_Bool, le-ltb}
use Rattle.tb_recur.specs.declared.plan.Plan.{Plan}
use Rattle.tb_recur.specs.Dues.{due}
use Rattle.tb_recur.specs.Wanting.{first_unwanted, has_begun, is_inside, need, wanted}
use Rattle.tb_recur.specs.AtOnce.{has_begun_at_once, wanted_at_once, first_unwanted_at_once, need_at_once, OneAheadIsAtOnce}

begun_same : (p : Plan) (j m : ℕ) → has_begun p 1 (suc j) m ≡ has_begun_at_once p (suc j) m
begun_same p j m =
    let past : nat_lt (suc j) 1 ≡ false = le-ltb (suc j) 1 (omega arith) in
    let place : suc j - 1 ≡ j = omega arith in
    rw (past, place) refl

pub wanted_same : (p : Plan) (k m : ℕ) → wanted p 1 k m ≡ wanted_at_once p k m
unfolding wanted wanted_at_once
wanted_same p zero m = refl
wanted_same p (suc j) m = ap (λ q. is_inside p.until (due p.due p.step (suc j)) && q) (begun_same p j m)

first_same : (p : Plan) (m k steps : ℕ) → first_unwanted p 1 m k steps ≡ first_unwanted_at_once p m k steps
first_same p m k zero = refl
first_same p m k (suc steps) =
    elim (cases_Bool (wanted_at_once p k m)) [
      | inl here ↦ rw (wanted_same p k m, here) (first_same p m (k + 1) steps)
      | inr other ↦ rw (wanted_same p k m, other) refl
    ]

pub need_same : (p : Plan) (m : ℕ) → need p 1 m ≡ need_at_once p m
unfolding need need_at_once
need_same p m = first_same p m 0 2932898

pub one_ahead : OneAheadIsAtOnce
one_ahead p m = (λ k. wanted_same p k m, need_same p m)
