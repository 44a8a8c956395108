-- What stands in a desk follows from what stood in it before, whatever calls it handled.
use Rattle.std.specs.Prelude.{ℕ, ◌+◌, ◌≤◌, Bool, true, false, List, length, Result, Ok, Err}
use Rattle.tb_calls.specs.declared.call.Call.{Call}
use Rattle.tb_calls.specs.Call.{State}
use Rattle.tb_calls.specs.Leaving.{Only, StandsAfter}
use Rattle.tb_serve.specs.declared.serving.ServeFault.{ServeFault}
use Rattle.tb_serve.specs.declared.serving.ServeFault.TheVariants.{ReadFailed, WriteFailed, Store, Memory}
use Rattle.tb_serve.specs.Telling.{StandsAt, after}

-- the store has failed
abbrev pub has_stopped : {T : Type 0} → Result T ServeFault → Bool
has_stopped (Ok x) = false
has_stopped (Err ReadFailed) = false
has_stopped (Err WriteFailed) = false
has_stopped (Err Store) = true
has_stopped (Err Memory) = false

-- From each state that was held, and alone was left by a stop: some calls were handled, and the desk stands where they
-- lead. Where the store failed meanwhile, the last of them may have acted or not, and a stop leaves all that were
-- answered, and one more at most.
abbrev pub Follows : Bool → (State → Type 0) → (State → Type 0) → (State → Type 0)
    → (State → Type 0) → Type 0
Follows false old old_stops now stops =
    (s : State) → old s → Only s old_stops
    → (calls : List Call) × StandsAt (after s calls) now stops
Follows true old old_stops now stops =
    (s : State) → old s → Only s old_stops
    → (calls : List Call) × (answered : ℕ) × (length calls ≤ answered + 1)
    × StandsAfter s calls answered now stops
