-- What stands after a call or a view.
use Rattle.std.proofs.Common.{◌≡◌, ℕ, Bool, true, false, List, [], ◌∷◌, Result, Err, refl}
use Rattle.std.specs.Prelude.{IsErrOf}
use Rattle.tb_calls.specs.declared.call.Call.{Call}
use Rattle.tb_calls.specs.declared.fault.KeepFault.{KeepFault}
use Rattle.tb_calls.specs.declared.fault.KeepFault.TheVariants.{Memory, Store}
use Rattle.tb_calls.specs.Call.{State}
use Rattle.tb_calls.specs.Keep.{IsStill, is_store}
use Rattle.tb_calls.specs.Leaving.{Only, StandsAfter}
use Rattle.tb_desk.proofs.Moves.{stands_still}
use Rattle.tb_serve.specs.Telling.{FailedAt, StandsAt, after}

-- a call got no reply
pub call_failed : (s : State) (c : Call) (now stops : State → Type 0) (fault : KeepFault)
    → (fault ≡ Memory → now s) → ((t : State) → now t → fault ≡ Memory → Only t stops) → StandsAfter s (c ∷ []) 0 now stops
    → FailedAt fault s (c ∷ []) now stops
call_failed s c now stops Memory same alone stood = record { held = same refl; stops = alone s (same refl) refl }
call_failed s c now stops Store same alone stood = stood

-- nothing is changed by a view
pub view_stands : (s : State) (old old_stops now stops : State → Type 0) → IsStill old old_stops now stops → old s → Only s old_stops → StandsAt s now stops
view_stands s old old_stops now stops still held only = record { held = still.held s held; stops = λ t left. only t (still.stops s t held left) }

pub view_failed : (s : State) (old old_stops now stops : State → Type 0) (fault : KeepFault) → IsStill old old_stops now stops → old s → Only s old_stops
    → FailedAt fault s [] now stops
view_failed s old old_stops now stops Memory still held only = view_stands s old old_stops now stops still held only
view_failed s old old_stops now stops Store still held only =
    let at = view_stands s old old_stops now stops still held only in
    stands_still s [] now stops at.held at.stops
