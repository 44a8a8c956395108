-- What a message leaves behind that was answered.
use Rattle.std.specs.Prelude.{◌≡◌, ◌⊎◌, ℕ, Bool, true, false, List, [], ◌∷◌, length, slice_set, take}
use Rattle.std.specs.Option.{option_map}
use Rattle.tb_event_loop.specs.Connection.{short_of_bytes, unasked}
use Rattle.tb_event_loop.specs.Guesses.{charged_with, counted_at, heeded, looked_at, owner_of}
use Rattle.tb_event_loop.specs.Head.{begun}
use Rattle.tb_event_loop.specs.Places.{Changes, Enters, connection_in, hold_in}
use Rattle.tb_event_loop.specs.Sharing.{counted_out}
use Rattle.tb_event_loop.specs.declared.journal.TheConstants.{LONGEST_HEAD}
use Rattle.tb_event_loop.specs.declared.places.Places.{Places}
use Rattle.tb_rooms.specs.declared.rates.Rates.{Rates}

-- its caller and its board are charged with what it wrote, and then what its answer says of its key is heeded
abbrev pub accounted : (List ℕ → Bool) → List ℕ → List ℕ → ℕ → ℕ → ℕ → Rates → Rates
accounted files head answer own swept now rates =
    heeded files head answer (charged_with head own swept now rates)

-- without memory some of it is not
abbrev pub Accounts : Bool → Rates → Rates → Type 0
Accounts true should is = is ≡ should
Accounts false should is = Unit {0}

-- the next message is awaited, of the owner who is known now, and the whole of the answer counts
abbrev pub AwaitsNext : Rates → List ℕ → ℕ → Places → Places → ℕ → Type 0
AwaitsNext rates head bytes old new place =
    (new.connections.items ≡ slice_set old.connections.items place
    (option_map (unasked (owner_of rates (begun head))) (connection_in old place)))
    × (new.holds.items
    ≡ slice_set old.holds.items place (counted_out bytes (hold_in old place)))
    × (new ≡ record old { connections = new.connections; holds = new.holds; rates = rates })

-- Where there is no answer the message wasn't whole.
abbrev pub EndsMessage : (List ℕ → Bool) → List ℕ → List ℕ → ℕ → ℕ → ℕ → Bool → Places → Places
    → ℕ → Type 0
EndsMessage files head [] own swept now kept old new place =
    Changes short_of_bytes old new place
EndsMessage files head (byte ∷ answer) own swept now kept old new place =
    (rates : Rates)
    × Accounts kept (accounted files head (byte ∷ answer) own swept now old.rates) rates
    × AwaitsNext rates head (length (byte ∷ answer)) old new place

-- the front of the message, unless there was no memory for it
abbrev pub IsHeadOf : List ℕ → List ℕ → Type 0
IsHeadOf held head = (head ≡ take LONGEST_HEAD held) ⊎ (head ≡ [])

-- Its message was looked at, answered and ended, and then it does what it needs next.
pub record Answers (files later_files : List ℕ → Bool) (place now : ℕ) (held answer later : List ℕ) (closes : Bool) (old new : Places) : Type 0 where
  pub looked : Places
  pub looks : looked ≡ record old { connections = looked.connections; rates = looked.rates }
  pub counted : looked.rates ≡ counted_at files (connection_in old place) held now old.rates
  pub asked : looked.connections.items ≡ slice_set old.connections.items place
      (option_map (looked_at files old.rates held now) (connection_in old place))
  pub head : List ℕ
  pub is_head : IsHeadOf held head
  pub own : ℕ
  pub swept : ℕ
  pub kept : Bool
  pub ended : Places
  pub ends : EndsMessage later_files head answer own swept now kept looked ended place
  pub enters : Enters ended new place now answer closes later
