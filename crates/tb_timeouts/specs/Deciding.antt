-- The decisions over the stages of all places.
use Rattle.std.specs.Prelude.{◌≡◌, ◌⊎◌, ℕ, ◌+◌, ◌-◌, ◌≤◌, nat_lt, if◌then◌else◌, List, slice_get, Option, Some, None}
use Rattle.std.specs.Option.{option_and_then}
use Rattle.tb_timeouts.specs.declared.earliest.Candidate.{Candidate}
use Rattle.tb_timeouts.specs.declared.limits.Limits.{Limits}
use Rattle.tb_timeouts.specs.declared.stage.Stage.{Stage}
use Rattle.tb_timeouts.specs.Stage.{end_of}

-- ---- the earliest moment

-- the moment of the stage in a place, where there is one
abbrev pub moment_at : (Stage → Option ℕ) → List Stage → ℕ → Option ℕ
moment_at moment stages place = option_and_then moment (slice_get stages place)

-- no place has such a moment
abbrev pub HasNone : (Stage → Option ℕ) → List Stage → Type 0
HasNone moment stages = (place : ℕ) → moment_at moment stages place ≡ None

-- This place has the least moment, and it is the first that has it.
pub record IsEarliest (moment : Stage → Option ℕ) (stages : List Stage)
    (place least : ℕ) : Type 0 where
  pub here : moment_at moment stages place ≡ Some least
  pub no_earlier : (other later : ℕ) → moment_at moment stages other ≡ Some later → least ≤ later
  pub first : (other : ℕ) → moment_at moment stages other ≡ Some least → place ≤ other

-- a later place is taken only where its moment is less
abbrev pub earlier_of : Option Candidate → ℕ → Option ℕ → Option Candidate
earlier_of found place None = found
earlier_of None place (Some moment) = Some (record { place = place; moment = moment })
earlier_of (Some candidate) place (Some moment) =
    if nat_lt moment candidate.moment then Some (record { place = place; moment = moment })
    else Some candidate

-- ---- how long to wait

-- It is the longest time, at most so long, at whose end none has stayed longer than it may.
pub record IsLongestWait (limits : Limits) (now most : ℕ) (stages : List Stage)
    (wait : ℕ) : Type 0 where
  pub at_most : wait ≤ most
  pub before_each : (place end : ℕ) → moment_at (end_of limits) stages place ≡ Some end
      → wait ≤ end - now
  pub no_less : (wait ≡ most)
      ⊎ ((place : ℕ) × (end : ℕ) × (moment_at (end_of limits) stages place ≡ Some end)
      × (wait ≡ end - now))
