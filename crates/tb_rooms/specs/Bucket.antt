-- How much was used of what may be used: in thousandths, since a rate of so many in a second is as many thousandths in a millisecond.
use Rattle.std.specs.Prelude.{ℕ, ◌+◌, ◌-◌, ◌*◌, ◌/◌, ◌^◌, ◌==◌, Bool, ◌||◌, nat_lt, if◌then◌else◌, max, min}
use Rattle.tb_rooms.specs.declared.bucket.Bucket.{Bucket}
use Rattle.tb_rooms.specs.declared.bucket.Rate.{Rate}

-- nothing was used
abbrev pub untouched : Bucket
untouched = record { used = 0; at = 0 }

-- what was used comes back at its rate, and no more than was used
abbrev pub used_at : Rate → Bucket → ℕ → ℕ
used_at rate bucket now = bucket.used - rate.per_second * (now - bucket.at)

-- some is left
abbrev pub is_due : Rate → Bucket → ℕ → Bool
is_due rate bucket now = nat_lt (used_at rate bucket now) (1000 * rate.burst)

-- so long until some is left
abbrev pub wait : Rate → Bucket → ℕ → ℕ
wait rate bucket now =
    if (rate.per_second == 0) || is_due rate bucket now then 0
    else min (min ((used_at rate bucket now - 1000 * rate.burst) / rate.per_second) (2 ^ 64 - 1) + 1)
    (2 ^ 64 - 1)

-- so much more was used; a count of 128 bits stays at its end
abbrev pub charged : Rate → Bucket → ℕ → ℕ → Bucket
charged rate bucket cost now = record {
  used = min (used_at rate bucket now + 1000 * cost) (2 ^ 128 - 1);
  at = max bucket.at now;
}
