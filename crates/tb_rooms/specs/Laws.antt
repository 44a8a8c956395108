-- What charges may cost in all.
use Rattle.std.specs.Prelude.{◌≡◌, ℕ, ◌+◌, ◌-◌, ◌*◌, ◌^◌, ◌<◌, ◌≤◌, true, List, [], ◌∷◌}
use Rattle.tb_rooms.specs.Bucket.{charged, is_due, untouched}
use Rattle.tb_rooms.specs.declared.bucket.Bucket.{Bucket}
use Rattle.tb_rooms.specs.declared.bucket.Rate.{Rate}

-- some costs at some moments, each when some was left
abbrev pub AreDue : Rate → Bucket → List (ℕ × ℕ) → Type 0
AreDue rate bucket [] = Unit {0}
AreDue rate bucket (charge ∷ charges) =
    (is_due rate bucket charge.1 ≡ true) × (charge.0 < 2 ^ 64)
    × AreDue rate (charged rate bucket charge.0 charge.1) charges

abbrev pub cost_of : List (ℕ × ℕ) → ℕ
cost_of [] = 0
cost_of (charge ∷ charges) = charge.0 + cost_of charges

abbrev pub last_cost : List (ℕ × ℕ) → ℕ
last_cost [] = 0
last_cost (charge ∷ []) = charge.0
last_cost (charge ∷ next ∷ charges) = last_cost (next ∷ charges)

-- the bucket after all of them
abbrev pub after_all : Rate → Bucket → List (ℕ × ℕ) → Bucket
after_all rate bucket [] = bucket
after_all rate bucket (charge ∷ charges) =
    after_all rate (charged rate bucket charge.0 charge.1) charges

-- From a moment at which nothing was used: all costs are bounded by what may be used at once, by the time, and by the last one.
abbrev pub IsBounded : Rate → Type 0
IsBounded rate = (start : ℕ) (charges : List (ℕ × ℕ))
    → rate.burst < 2 ^ 64
    → (let first : Bucket = record { used = 0; at = start } in AreDue rate first charges
    → 1000 * cost_of charges
    ≤ 1000 * rate.burst + rate.per_second * ((after_all rate first charges).at - start)
    + 1000 * last_cost charges)
