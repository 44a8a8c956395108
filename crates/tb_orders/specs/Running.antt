-- What an import in parts comes to.
use Rattle.std.specs.Prelude.{◌≡◌, ◌⊎◌, ◌≤◌, ℕ, ◌+◌, ◌==◌, Bool, true, false, List, [], ◌∷◌, ◌++◌, length, take, Option, Some, None, IfSome, Result, Ok, Err, IfOk, OnOk, OnErr, IsErr, decimal, if◌then◌else◌}
use Rattle.std.specs.Io.KnownBytes.{Appends}
use Rattle.tb_calls.specs.Call.{State, replies_to}
use Rattle.tb_calls.specs.Leaving.{StandsAfter}
use Rattle.tb_calls.specs.declared.call.Call.{Call}
use Rattle.tb_command_line.specs.declared.order.ImportOrder.{ImportOrder}
use Rattle.tb_http.specs.declared.message.Message.{Message}
use Rattle.tb_orders.specs.Lists.{IsCut}
use Rattle.tb_orders.specs.Message.{message_under}
use Rattle.tb_orders.specs.Orders.{AsksFor, line_text}
use Rattle.tb_orders.specs.declared.ending.Ending.{Ending}
use Rattle.tb_orders.specs.declared.ending.Ending.TheVariants.{Accepted, Refused}
use Rattle.tb_program.specs.declared.fault.Fault.{Fault}
use Rattle.tb_program.specs.declared.fault.Fault.TheVariants.{Store}
use Rattle.tb_calls.specs.declared.reply.Reply.{Reply}
use Rattle.tb_task.specs.TaskId.{named_id}
use Rattle.tb_values.specs.Appends.{AppendsFront}

-- the identifier of a part is made from the import's and the part's number
-- Rule: each part has an identifier of its own. Tried by import.sh.
abbrev pub part_id : ℕ → ℕ → ℕ
part_id id number = named_id id (decimal number)

abbrev pub part_message : ImportOrder → ℕ → List ℕ → Message
part_message order number part = message_under order (part_id order.id number) part

-- the messages of parts that are numbered behind so many
abbrev pub messages_behind : ImportOrder → ℕ → List (List ℕ) → List Message
messages_behind order before [] = []
messages_behind order before (part ∷ parts) =
    part_message order (before + 1) part ∷ messages_behind order (before + 1) parts

-- calls that the first of some messages ask for, one each, in order
abbrev pub AreFirst : List Message → ℕ → List Call → Type 0
AreFirst messages at [] = Unit {0}
AreFirst [] at (call ∷ calls) = ⊥
AreFirst (message ∷ messages) at (call ∷ calls) = AsksFor message at call
    × AreFirst messages at calls

-- one of some messages asks for no call
abbrev pub HasUnasked : List Message → ℕ → Type 0
HasUnasked [] at = ⊥
HasUnasked (message ∷ messages) at =
    ((call : Call) → AsksFor message at call → ⊥) ⊎ HasUnasked messages at

-- a text isn't cut into parts, or one of them asks for no call
abbrev pub IsBadWhole : ImportOrder → List ℕ → Type 0
IsBadWhole order text = IsCut order.kind text None
    ⊎ ((parts : List (List ℕ)) × (at : ℕ) × IsCut order.kind text (Some parts)
    × HasUnasked (messages_behind order 0 parts) at)

-- the replies' bodies, a line each
abbrev pub lines_text : List Reply → List ℕ
lines_text [] = []
lines_text (reply ∷ replies) = line_text reply ++ lines_text replies

-- nothing follows a refusal
abbrev pub is_refused : List Reply → Ending → Bool
is_refused [] Refused = true
is_refused [] Accepted = false
is_refused (reply ∷ replies) ending = false

-- each reply accepts, or the last alone is a refusal
abbrev pub ends_as : List Reply → Ending → Bool
ends_as [] Accepted = true
ends_as [] Refused = false
ends_as (reply ∷ replies) ending = if reply.number == 0 then ends_as replies ending
    else is_refused replies ending

-- the store may have failed at one call more than were answered
abbrev pub more_by : Result Ending Fault → ℕ
more_by (Ok ending) = 0
more_by (Err Store) = 1
more_by (Err other) = 0

-- the calls of some first messages were made, one after another: all of them where the run was accepted
pub record IsRun (messages : List Message) (at : ℕ) (s : State) (result : Result Ending Fault)
    (honest : Bool)
    (now may_leave : State → Type 0) (before after : Option (List ℕ)) : Type 0 where
  pub calls : List Call
  pub answered : ℕ
  pub asked : AreFirst messages at calls
  pub stands : StandsAfter s calls answered now may_leave
  pub exact : length calls ≤ answered + more_by result
  pub done : OnOk result (answered ≡ length calls)
  pub all : result ≡ Ok Accepted → length calls ≡ length messages
  pub told : honest ≡ true → OnOk result (Appends before after (lines_text (replies_to s calls)))
  pub ends : honest ≡ true → IfOk result (λ ending. ends_as (replies_to s calls) ending ≡ true)
  pub front : honest ≡ true → OnErr result
      (AppendsFront before after (lines_text (replies_to s (take answered calls))))

-- of an input in parts: of those of its text, at a moment that was given, or of none, and then it failed
pub record IsRunOf (given : ℕ → Type 0) (order : ImportOrder) (input : Option (List ℕ)) (s : State)
    (result : Result Ending Fault) (honest : Bool)
    (now may_leave : State → Type 0) (before after : Option (List ℕ)) : Type 0 where
  pub text : List ℕ
  pub parts : List (List ℕ)
  pub at : ℕ
  pub whole : IfSome input (λ all. text ≡ all)
  pub cut : (IsCut order.kind text (Some parts) × given at) ⊎ ((parts ≡ []) × IsErr result)
  pub run : IsRun (messages_behind order 0 parts) at s result honest now may_leave before after
