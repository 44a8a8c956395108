-- What stands of one call.
use Rattle.std.proofs.Common.{◌≡◌, ◌∷◌, [], Result, Ok, Err, IfErr, arith, refl, subst, sym}
use Rattle.tb_calls.specs.Call.{State}
use Rattle.tb_calls.specs.Leaving.{Only, StandsAfter}
use Rattle.tb_calls.specs.declared.call.Call.{Call}
use Rattle.tb_calls.specs.declared.fault.KeepFault.{KeepFault}
use Rattle.tb_calls.specs.declared.fault.KeepFault.TheVariants.{Memory, Store}
use Rattle.tb_orders.specs.Orders.{calls_made, fault_of_keep}
use Rattle.tb_orders.specs.declared.ending.Ending.{Ending}
use Rattle.tb_program.specs.declared.fault.Fault.{Fault}
use Rattle.tb_program.specs.declared.fault.Fault.TheVariants.{WriteFailed}

-- a call that was answered, whether its reply could be written or not
pub answered : (r : Result Ending Fault) (s : State) (c : Call) (now stops : State → Type 0) → IfErr r (λ fault. fault ≡ WriteFailed)
    → StandsAfter s (c ∷ []) 1 now stops → StandsAfter s (c ∷ []) (calls_made r) now stops
answered (Ok ending) s c now stops unwritten stood = stood
answered (Err fault) s c now stops unwritten stood = subst (λ f. StandsAfter s (c ∷ []) (calls_made (Err f)) now stops) (sym unwritten) stood

-- a call that the desk couldn't answer
pub unanswered : (keep : KeepFault) (fault : Fault) (s : State) (c : Call) (now stops : State → Type 0) → fault ≡ fault_of_keep keep
    → StandsAfter s (c ∷ []) 0 now stops → StandsAfter s (c ∷ []) (calls_made (Err fault)) now stops
unanswered Memory fault s c now stops is stood = subst (λ f. StandsAfter s (c ∷ []) (calls_made (Err f)) now stops) (sym is) stood
unanswered Store fault s c now stops is stood = subst (λ f. StandsAfter s (c ∷ []) (calls_made (Err f)) now stops) (sym is) stood

-- a call that wasn't handled
pub untouched : (s : State) (c : Call) (now stops : State → Type 0) → now s → Only s stops → StandsAfter s (c ∷ []) 0 now stops
untouched s c now stops held only = record { held = (s, held, (0, omega arith, omega arith, refl)); stops = λ t left. (0, omega arith, omega arith, only t left) }
