-- What is noted of a place after its visit.
use Rattle.std.specs.Prelude.{◌≡◌, ◌⊎◌, ℕ, ◌-◌, ◌||◌, List, Option, Some, None, length, slice_set}
use Rattle.tb_event_loop.specs.Places.{connection_in, hold_in, stage_in}
use Rattle.tb_event_loop.specs.Sharing.{counted_out, is_tight_by, owner_at, turned_for}
use Rattle.tb_event_loop.specs.declared.event_loop.EventLoop.{EventLoop}
use Rattle.tb_event_loop.specs.declared.places.Places.{Places}
use Rattle.tb_rooms.specs.Holding.{after_turn, vacant_hold}
use Rattle.tb_rooms.specs.declared.holding.Hold.{Hold}

-- an answer of so many bytes was made, or none
abbrev pub counted : Option ℕ → Hold → Hold
counted None hold = hold
counted (Some bytes) hold = counted_out bytes hold

-- Of what is held nothing is another, but that an answer of this place may count.
pub record CountsOut (old new : Places) (place : ℕ) : Type 0 where
  pub answer : Option ℕ
  pub holds : new.holds.items
      ≡ slice_set old.holds.items place (counted answer (hold_in old place))
  pub tight : new.is_tight ≡ old.is_tight

-- the same, or nothing, since no connection is there
abbrev pub IsStillHeld : Hold → Hold → Type 0
IsStillHeld before now =
    (now ≡ vacant_hold) ⊎ ((answer : Option ℕ) × (now ≡ counted answer before))

-- Of what is held nothing is another, but that an answer of this place may count, or its connection is gone.
pub record HoldsOn (old new : Places) (place : ℕ) : Type 0 where
  pub holds : new.holds.items ≡ slice_set old.holds.items place (hold_in new place)
  pub is : IsStillHeld (hold_in old place) (hold_in new place)
  pub tight : new.is_tight ≡ old.is_tight

-- What a place holds is noted: whose it is and what its connection does, how many bytes its message wants and how many of an answer
-- aren't taken, and that it had a turn in this round, which took so long.
pub record IsNoted {V : Type 0} (wants : V → ℕ → ℕ → Type 0) (owed : V → ℕ → List ℕ) (place : ℕ) (before after : EventLoop) (service : V) : Type 0 where
  pub held : Hold
  pub was : IsStillHeld (hold_in before.places place) held
  pub wanted : ℕ
  pub is_wanted : wants service place wanted
  pub hold : Hold
  pub is : hold ≡ after_turn (owner_at (connection_in after.places place))
      (stage_in after.places place) wanted (length (owed service place)) held
  pub holds : after.places.holds.items ≡ slice_set before.places.holds.items place
      (turned_for before.places.round (after.seen - before.seen) hold)
  pub tight : after.places.is_tight
      ≡ (before.places.is_tight || is_tight_by before.places.rooms.allowance hold)
