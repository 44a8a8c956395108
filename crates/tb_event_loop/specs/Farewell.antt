-- How connections are ended where the store failed.
use Rattle.std.specs.Prelude.{◌≡◌, ℕ, zero, suc, true, List, [], ◌∷◌, ◌++◌, Option, Some, None}
use Rattle.tb_event_loop.specs.Places.{connection_in}
use Rattle.tb_event_loop.specs.Sockets.{Called, Quietly, is_quiet, shut, unwritten, wrote}
use Rattle.tb_event_loop.specs.declared.connection.Connection.{Connection}
use Rattle.tb_event_loop.specs.declared.places.Places.{Places}
use Rattle.tb_timeouts.specs.declared.limits.TheConstants.{CONNECTIONS}

-- what is sent to a connection is a front of what it is owed, and nothing is handed to a service any more
abbrev pub IsFarewell : (ℕ → List ℕ) → Called → Type 0
IsFarewell owed (wrote place bytes) = (rest : List ℕ) × (owed place ≡ bytes ++ rest)
IsFarewell owed call = is_quiet call ≡ true

abbrev pub AreFarewells : (ℕ → List ℕ) → List Called → Type 0
AreFarewells owed [] = Unit {0}
AreFarewells owed (call ∷ calls) = IsFarewell owed call × AreFarewells owed calls

-- of these bytes some were written to a place, or couldn't be
abbrev pub IsWriteOf : List ℕ → ℕ → Called → Type 0
IsWriteOf owed place (wrote at bytes) =
    (at ≡ place) × (rest : List ℕ) × (owed ≡ bytes ++ rest)
IsWriteOf owed place (unwritten at kind) = at ≡ place
IsWriteOf owed place call = ⊥

pub record SaysFarewell {N : Type 0} (follows : List Called → N → N → Type 0) (owed : ℕ → List ℕ) (old new : N) : Type 0 where
  pub calls : List Called
  pub made : follows calls old new
  pub are : AreFarewells owed calls

module _ {N : Type 0} (follows : List Called → N → N → Type 0) where
  -- what is owed is written once, where there is something
  abbrev pub WritesOnce : List ℕ → ℕ → N → N → Type 0
  WritesOnce [] place old new = new ≡ old
  WritesOnce (byte ∷ bytes) place old new =
      (call : Called) × IsWriteOf (byte ∷ bytes) place call × follows (call ∷ []) old new

  -- and then nothing more is sent
  abbrev pub WritesLast : List ℕ → ℕ → N → N → Type 0
  WritesLast owed place old new =
      (between : N) × WritesOnce owed place old between × follows (shut place ∷ []) between new

module _ {N : Type 0} (follows : List Called → N → N → Type 0) (owed : ℕ → List ℕ) where
  -- so to a connection, if there is one
  abbrev pub SendsTo : Option Connection → ℕ → N → N → Type 0
  SendsTo None place old new = new ≡ old
  SendsTo (Some connection) place old new = WritesLast follows (owed place) place old new

  -- so for the places below this one
  abbrev pub SendsBelow : ℕ → Places → N → N → Type 0
  SendsBelow zero places old new = new ≡ old
  SendsBelow (suc place) places old new =
      (between : N) × SendsBelow place places old between
      × SendsTo (connection_in places place) place between new

  -- so for all places, and then the clients have time to read it
  abbrev pub SendsAll : Places → N → N → Type 0
  SendsAll places old new =
      (between : N) × SendsBelow CONNECTIONS places old between × Quietly follows between new
