-- What a call or a view that is sent comes to, or why it comes to nothing.
use Rattle.std.specs.Prelude.{◌==◌, ◌≡◌, ◌⊎◌, ℕ, Bool, true, false, nat_lt, List, length, Option, Some, None}
use Rattle.std.specs.Io.KnownBytes.{Appends}
use Rattle.tb_client.specs.Asking.{Event, IsAnswered, IsLate, IsSentOut}
use Rattle.tb_client.specs.Request.{Text, message_of, request_of}
use Rattle.tb_client.specs.Places.{export_of, places_of}
use Rattle.tb_client.specs.declared.answer.Reply.{Reply}
use Rattle.tb_client.specs.declared.message.Sender.{Sender}
use Rattle.tb_client.specs.declared.request.Request.{Request}
use Rattle.tb_command_line.specs.declared.order.SendOrder.{SendOrder}
use Rattle.tb_orders.specs.declared.ending.Ending.{Ending}
use Rattle.tb_program.specs.declared.fault.Fault.{Fault}
use Rattle.tb_program.specs.declared.fault.Fault.TheVariants.{Bad, BadBody, Memory, NoAnswer, NoKey, ReadFailed, WriteFailed}
use Rattle.tb_sending.specs.Key.{IsKeyOf}
use Rattle.tb_sending.specs.Places.{IsNamedBy, IsRefused, IsUnread}
use Rattle.tb_sending.specs.Replies.{ending_at, reply_text}
use Rattle.tb_task.specs.Limits.{longest_body}
use Rattle.tb_values.specs.Appends.{AppendsFront}

-- ---- what is sent

abbrev pub sender_of : SendOrder → Text → Sender
sender_of order key = record { server = order.server; member = order.member; key = key }

-- no server takes a longer body
abbrev pub is_long : Option Text → Bool
is_long None = false
is_long (Some body) = nat_lt longest_body (length body)

-- Rule: no body over 1,048,576 bytes is sent. Refused as BadBody. Tried by no test.
abbrev pub is_too_long : Request → Bool
is_too_long request = is_long request.body

-- the words hold no places
abbrev pub has_no_places : List Text → Bool
has_no_places words = length (places_of words) == 0

-- the message is of the request, from the order's sender and under its identifier
pub record IsMessage (order : SendOrder) (request : Request) (message : Text) : Type 0 where
  pub id : ℕ
  pub key : Text
  pub named : order.id ≡ Some id
  pub known : IsKeyOf order.key key
  pub fits : is_too_long request ≡ false
  pub is : message ≡ message_of (sender_of order key) id request

-- why there is no message
abbrev pub IsNoMessage : SendOrder → Request → Fault → Type 0
IsNoMessage order request BadBody = is_too_long request ≡ true
IsNoMessage order request ReadFailed = order.id ≡ None
IsNoMessage order request NoKey = order.key ≡ None
IsNoMessage order request Memory = Unit {0}
IsNoMessage order request _ = ⊥

-- ---- what happens on the line to a server

module _ {L : Type 0} (follows : List Event → L → L → Type 0) where
  -- the message of a request was sent until it was answered
  pub record IsReplied (order : SendOrder) (request : Request) (old new : L) (reply : Reply) : Type 0 where
    pub message : Text
    pub happened : List Event
    pub is : IsMessage order request message
    pub led : follows happened old new
    pub answered : IsAnswered message happened reply

  -- it was sent, and no answer came in the time
  pub record IsUnanswered (order : SendOrder) (request : Request) (old new : L) : Type 0 where
    pub message : Text
    pub happened : List Event
    pub is : IsMessage order request message
    pub led : follows happened old new
    pub late : IsLate message happened ⊎ IsSentOut message happened

  -- why it has no reply: there is no message, or no answer to it, or no memory to read that
  abbrev pub Lacks : SendOrder → Request → L → L → Fault → Type 0
  Lacks order request old new fault =
      (IsNoMessage order request fault × (new ≡ old))
      ⊎ (((fault ≡ NoAnswer) × IsUnanswered order request old new) ⊎ (fault ≡ Memory))

  -- what the words ask for, if they ask for something, was answered
  pub record AreReplied (asked : Option Request) (order : SendOrder) (old new : L) (reply : Reply) : Type 0 where
    pub request : Request
    pub is : asked ≡ Some request
    pub replied : IsReplied order request old new reply

  -- it has no answer
  pub record AreUnanswered (asked : Option Request) (order : SendOrder) (old new : L) (fault : Fault) : Type 0 where
    pub request : Request
    pub is : asked ≡ Some request
    pub lacks : Lacks order request old new fault

  -- the board's tasks were asked for, and stand in the words in place of their places
  pub record AreNamed (order named : SendOrder) (old new : L) : Type 0 where
    pub reply : Reply
    pub replied : AreReplied (export_of order.words) order old new reply
    pub is : IsNamedBy reply order named

  -- the order as it is sent: the words of some hold places, which are looked up first
  abbrev pub IsReady : SendOrder → SendOrder → L → L → Type 0
  IsReady order ready old new =
      ((has_no_places order.words ≡ true) × (ready ≡ order) × (new ≡ old))
      ⊎ ((has_no_places order.words ≡ false) × AreNamed order ready old new)

-- ---- what comes of the order

module _ {L W : Type 0} (follows : List Event → L → L → Type 0) (contents : W → Option Text) where
  -- the words ask for nothing, or for no board
  abbrev pub AreIdle : Option Request → L → L → W → W → Fault → Type 0
  AreIdle asked old new before after fault =
      (fault ≡ Bad) × (asked ≡ None) × (new ≡ old) × (after ≡ before)

  -- what they ask for has no answer, or there was no memory to find it
  abbrev pub AreUntold : Option Request → SendOrder → L → L → W → W → Fault → Type 0
  AreUntold asked order old new before after fault =
      AreIdle asked old new before after fault
      ⊎ ((AreUnanswered follows asked order old new fault × (after ≡ before))
      ⊎ ((fault ≡ Memory) × (after ≡ before)))

  -- the reply is told, and decides how the order ended
  pub record IsSent (order : SendOrder) (old new : L) (before after : W) (ending : Ending) : Type 0 where
    pub reply : Reply
    pub replied : AreReplied follows (request_of order.words) order old new reply
    pub told : Appends (contents before) (contents after) (reply_text order.words reply)
    pub ends : ending ≡ ending_at reply.status

  -- a front of it alone
  pub record IsCut (order : SendOrder) (old new : L) (before after : W) (fault : Fault) : Type 0 where
    pub is : fault ≡ WriteFailed
    pub reply : Reply
    pub replied : AreReplied follows (request_of order.words) order old new reply
    pub front : AppendsFront (contents before) (contents after) (reply_text order.words reply)

  abbrev pub IsUnsent : SendOrder → L → L → W → W → Fault → Type 0
  IsUnsent order old new before after fault =
      AreUntold (request_of order.words) order old new before after fault
      ⊎ IsCut order old new before after fault

  -- the board's tasks were asked for, and the reply is a refusal, or has no such task
  pub record AreRefused (order : SendOrder) (old new : L) (before after : W) (ending : Ending) : Type 0 where
    pub reply : Reply
    pub replied : AreReplied follows (export_of order.words) order old new reply
    pub is : IsRefused contents order.words reply before after ending

  -- the reply is no board, or was told in part
  pub record AreUnread (order : SendOrder) (old new : L) (before after : W) (fault : Fault) : Type 0 where
    pub reply : Reply
    pub replied : AreReplied follows (export_of order.words) order old new reply
    pub is : IsUnread contents order.words reply before after fault

  abbrev pub AreUnnamed : SendOrder → L → L → W → W → Fault → Type 0
  AreUnnamed order old new before after fault =
      AreUntold (export_of order.words) order old new before after fault
      ⊎ AreUnread order old new before after fault

  -- how the order ends: words are sent when they hold no places, or no longer
  abbrev pub ComesTo : SendOrder → SendOrder → L → L → W → W → Ending → Type 0
  ComesTo order ready old new before after ending =
      ((middle : L) × IsReady follows order ready old middle
      × IsSent ready middle new before after ending)
      ⊎ ((has_no_places order.words ≡ false) × (ready ≡ order)
      × AreRefused order old new before after ending)

  -- why it doesn't end
  abbrev pub Fails : SendOrder → SendOrder → L → L → W → W → Fault → Type 0
  Fails order ready old new before after fault =
      ((middle : L) × IsReady follows order ready old middle
      × IsUnsent ready middle new before after fault)
      ⊎ (((has_no_places order.words ≡ false) × (ready ≡ order)
      × AreUnnamed order old new before after fault)
      ⊎ ((fault ≡ Memory) × (after ≡ before)))
