-- The one call that gives a key.
use Rattle.std.proofs.Common.{◌≡◌, List, ℕ, [], ◌∷◌, Option, Some, Result, Ok, Err, IfOk, OnOk, subst}
use Rattle.std.specs.Io.KnownBytes.{Appends}
use Rattle.tb_calls.specs.Call.{State, once, plain, reply}
use Rattle.tb_calls.specs.Leaving.{StandsAfter}
use Rattle.tb_calls.specs.declared.call.Call.{Call}
use Rattle.tb_orders.specs.NewKey.{IsGiven, call_in, given_text}
use Rattle.tb_orders.specs.Orders.{ending_of}
use Rattle.tb_orders.specs.declared.ending.Ending.{Ending}
use Rattle.tb_orders.specs.declared.new_key.NewKey.{NewKey}
use Rattle.tb_program.specs.declared.fault.Fault.{Fault}

-- an order that was carried out made its call
pub given_by : (r : Result Ending Fault) (asked : NewKey) (s : State) (call : Call) (now : State → Type 0) (before after : Option (List ℕ))
    → call_in s asked ≡ Some call → OnOk r (now (plain s (once s (call ∷ [])))) → OnOk r (Appends before after (given_text asked (reply s [] call)))
    → IfOk r (λ ending. ending ≡ ending_of (reply s [] call)) → IfOk r (IsGiven asked s now before after)
given_by (Err fault) asked s call now before after is left told ends = tt
given_by (Ok ending) asked s call now before after is left told ends =
    record { call = call; is = is; held = left; told = told; ends = ends }

-- what stands of the call stands of the one that is asked for
pub stands_asked : (s : State) (asked : NewKey) (made call : Call) (n : ℕ) (now stops : State → Type 0) → call_in s asked ≡ Some made → call_in s asked ≡ Some call
    → StandsAfter s (made ∷ []) n now stops → StandsAfter s (call ∷ []) n now stops
stands_asked s asked made call n now stops is other stood =
    let same : made ≡ call = cc in
    subst (λ c. StandsAfter s (c ∷ []) n now stops) same stood
