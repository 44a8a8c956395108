-- What charges may cost in all, one charge after another.
use Rattle.std.proofs.Common.{◌≡◌, ℕ, ◌+◌, ◌-◌, ◌*◌, ◌<◌, ◌≤◌, List, [], ◌∷◌, refl, sym, ap, ◌∙◌, subst, mul-add, arith}
use Rattle.std.specs.Prelude.{max, min}
use Rattle.std.proofs.lemmas.Bool.{ltb-true}
use Rattle.tb_rooms.specs.Bucket.{charged, used_at}
use Rattle.tb_rooms.specs.Laws.{AreDue, IsBounded, after_all, cost_of, last_cost}
use Rattle.tb_rooms.specs.declared.bucket.Bucket.{Bucket}
use Rattle.tb_rooms.specs.declared.bucket.Rate.{Rate}

-- no moment of a charge is before the one of the bucket
later : (rate : Rate) (bucket : Bucket) (charges : List (ℕ × ℕ)) → bucket.at ≤ (after_all rate bucket charges).at
later rate bucket [] = omega arith
later rate bucket (charge ∷ charges) =
    let more : max bucket.at charge.1 ≤ (after_all rate bucket (charge ∷ charges)).at = later rate (charged rate bucket charge.0 charge.1) charges in
    omega (arith, more)

-- one charge
one : (used back burst cost : ℕ) → used - back < 1000 * burst → 1000 * (cost + 0) + used ≤ 1000 * burst + back + 1000 * cost
one used back burst cost due = omega (arith, due)

-- one charge before others
more : (used back rest_back all_back burst cost rest last : ℕ) → used - back < 1000 * burst → burst < 18446744073709551616 → cost < 18446744073709551616
    → all_back ≡ rest_back + back
    → 1000 * rest + min (used - back + 1000 * cost) 340282366920938463463374607431768211455 ≤ 1000 * burst + rest_back + 1000 * last
    → 1000 * (cost + rest) + used ≤ 1000 * burst + all_back + 1000 * last
more used back rest_back all_back burst cost rest last due few fits is others = omega (arith, due, few, fits, is, others)

since : (at now : ℕ) → max at now - at ≡ now - at
since at now = omega arith

between : (at now end : ℕ) → max at now ≤ end → end - at ≡ end - max at now + (now - at)
between at now end before = omega (arith, before)

-- what came back between two moments came back in each part of the time
in_parts : (rate at now end : ℕ) → max at now ≤ end → rate * (end - at) ≡ rate * (end - max at now) + rate * (now - at)
in_parts rate at now end before = ap (λ n. rate * n) (between at now end before) ∙ mul-add rate (end - max at now) (now - at)

bounded_from : (rate : Rate) (bucket : Bucket) (charge : ℕ × ℕ) (charges : List (ℕ × ℕ)) → rate.burst < 18446744073709551616
    → AreDue rate bucket (charge ∷ charges)
    → 1000 * cost_of (charge ∷ charges) + bucket.used
    ≤ 1000 * rate.burst + rate.per_second * ((after_all rate bucket (charge ∷ charges)).at - bucket.at) + 1000 * last_cost (charge ∷ charges)
bounded_from rate bucket charge [] few due =
    subst (λ n. 1000 * (charge.0 + 0) + bucket.used ≤ 1000 * rate.burst + rate.per_second * n + 1000 * charge.0) (sym (since bucket.at charge.1))
    (one bucket.used (rate.per_second * (charge.1 - bucket.at)) rate.burst charge.0
    (ltb-true (used_at rate bucket charge.1) (1000 * rate.burst) due.0))
bounded_from rate bucket charge (next ∷ charges) few due =
    let between_them = charged rate bucket charge.0 charge.1 in
    let end = (after_all rate between_them (next ∷ charges)).at in
    more bucket.used (rate.per_second * (charge.1 - bucket.at)) (rate.per_second * (end - between_them.at)) (rate.per_second * (end - bucket.at))
    rate.burst charge.0 (cost_of (next ∷ charges)) (last_cost (next ∷ charges))
    (ltb-true (used_at rate bucket charge.1) (1000 * rate.burst) due.0) few due.1
    (in_parts rate.per_second bucket.at charge.1 end (later rate between_them (next ∷ charges)))
    (bounded_from rate between_them next charges few due.2)

from_zero : (cost n : ℕ) → cost + 0 ≤ n → cost ≤ n
from_zero cost n bound = omega (arith, bound)

pub bounded : (rate : Rate) → IsBounded rate
bounded rate start [] few due = omega arith
bounded rate start (charge ∷ charges) few due =
    from_zero (1000 * cost_of (charge ∷ charges)) _ (bounded_from rate (record { used = 0; at = start }) charge charges few due)
