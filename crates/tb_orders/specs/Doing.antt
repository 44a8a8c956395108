-- What an import has done, however it ended.
use Rattle.std.specs.Prelude.{◌≡◌, ℕ, Bool, true, false, if◌then◌else◌, List, [], ◌∷◌, Option, Result, Ok, Err, OnOk, OnErr, take}
use Rattle.std.specs.Io.KnownBytes.{Appends}
use Rattle.tb_calls.specs.Call.{State, replies_to}
use Rattle.tb_calls.specs.Leaving.{StandsAfter}
use Rattle.tb_calls.specs.declared.call.Call.{Call}
use Rattle.tb_command_line.specs.declared.order.ImportOrder.{ImportOrder}
use Rattle.tb_orders.specs.Input.{IsAskedBy}
use Rattle.tb_orders.specs.Orders.{calls_made}
use Rattle.tb_orders.specs.Running.{lines_text}
use Rattle.tb_orders.specs.declared.ending.Ending.{Ending}
use Rattle.tb_program.specs.declared.fault.Fault.{Fault}
use Rattle.tb_program.specs.declared.fault.Fault.TheVariants.{NoClock, ReadFailed, Store, WriteFailed}
use Rattle.tb_values.specs.Appends.{AppendsFront}

-- its call acted, also where the reply couldn't be written, or may have, where the store failed
abbrev pub may_act : Result Ending Fault → Bool
may_act (Ok ending) = true
may_act (Err WriteFailed) = true
may_act (Err Store) = true
may_act (Err other) = false

-- the calls that were made, of the one that is asked for
abbrev pub made_of : Result Ending Fault → Call → List Call
made_of result call = if may_act result then call ∷ [] else []

-- the one that an order asks for by an input, where it may have acted, and else none
abbrev pub AreMade : (ℕ → Type 0) → Bool → ImportOrder → Option (List ℕ) → List Call → Type 0
AreMade given true order input calls = (call : Call) × IsAskedBy given order input call
    × (calls ≡ call ∷ [])
AreMade given false order input calls = calls ≡ []

-- The calls that an import of an input made stand. What is printed is their reply, a line, and a front of it where the import failed.
pub record Does (given : ℕ → Type 0) (order : ImportOrder) (input : Option (List ℕ)) (s : State)
    (result : Result Ending Fault) (honest : Bool) (now may_leave : State → Type 0)
    (before after : Option (List ℕ)) : Type 0 where
  pub calls : List Call
  pub made : AreMade given (may_act result) order input calls
  pub stands : StandsAfter s calls (calls_made result) now may_leave
  pub told : honest ≡ true → OnOk result
      (Appends before after (lines_text (replies_to s calls)))
  pub front : honest ≡ true → OnErr result
      (AppendsFront before after (lines_text (replies_to s (take (calls_made result) calls))))

-- the input couldn't be read, or there was no clock: that is so before the first call alone
abbrev pub is_unread : Fault → Bool
is_unread NoClock = true
is_unread ReadFailed = true
is_unread _ = false
