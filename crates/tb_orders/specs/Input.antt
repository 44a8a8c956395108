-- What an import of an input comes to.
use Rattle.std.specs.Prelude.{◌≡◌, ◌⊎◌, ◌<◌, ℕ, Bool, true, List, [], ◌∷◌, length, Option, IfSome}
use Rattle.std.specs.Io.KnownBytes.{Appends}
use Rattle.tb_calls.specs.Call.{State, once, plain, reply}
use Rattle.tb_calls.specs.declared.call.Call.{Call}
use Rattle.tb_command_line.specs.declared.order.ImportOrder.{ImportOrder}
use Rattle.tb_orders.specs.Message.{message_of}
use Rattle.tb_orders.specs.Orders.{AsksFor, ending_of, line_text}
use Rattle.tb_orders.specs.declared.ending.Ending.{Ending}
use Rattle.tb_task.specs.Limits.{longest_body}

-- the call is the one that an order asks for by the text of an input, at a moment that was given
pub record IsAskedBy (given : ℕ → Type 0) (order : ImportOrder) (input : Option (List ℕ))
    (call : Call) : Type 0 where
  pub text : List ℕ
  pub at : ℕ
  pub gave : given at
  pub whole : IfSome input (λ all. text ≡ all)
  pub asked : AsksFor (message_of order text) at call

-- a text is longer than one call takes, or no call is asked for by it
abbrev pub IsBadText : ImportOrder → List ℕ → Type 0
IsBadText order text = (longest_body < length text)
    ⊎ ((at : ℕ) × ((call : Call) → AsksFor (message_of order text) at call → ⊥))

-- the call that an order asks for by an input was made, and its reply, which is true of an honest store, is told and decides how the order ended
pub record IsMade (given : ℕ → Type 0) (order : ImportOrder) (input : Option (List ℕ)) (s : State)
    (honest : Bool) (now : State → Type 0)
    (before after : Option (List ℕ)) (ending : Ending) : Type 0 where
  pub call : Call
  pub asked : IsAskedBy given order input call
  pub held : now (plain s (once s (call ∷ [])))
  pub told : honest ≡ true → Appends before after (line_text (reply s [] call))
  pub ends : honest ≡ true → ending ≡ ending_of (reply s [] call)
