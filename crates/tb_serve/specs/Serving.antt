-- A connection's messages, answered in turn.
use Rattle.std.specs.Prelude.{◌≡◌, ◌⊎◌, ℕ, ◌+◌, ◌<◌, ◌&&◌, Bool, true, false, not, if◌then◌else◌, List, [], ◌∷◌, ◌++◌, length, take, Option, Some, None, is_some}
use Rattle.std.specs.Io.KnownBytes.{Appends}
use Rattle.tb_calls.specs.declared.call.Call.{Call}
use Rattle.tb_calls.specs.declared.fault.KeepFault.{KeepFault}
use Rattle.tb_calls.specs.declared.fault.KeepFault.TheVariants as keep
use Rattle.tb_calls.specs.Call.{State}
use Rattle.tb_http.specs.declared.fault.WireFault.{WireFault}
use Rattle.tb_http.specs.declared.fault.WireFault.TheVariants as wire
use Rattle.tb_http.specs.declared.answer.Answer.{Answer}
use Rattle.tb_http.specs.declared.message.Message.{Message}
use Rattle.tb_http.specs.Answer.{answer_text, fault_answer}
use Rattle.tb_http.specs.Fault.{body_of, status_of}
use Rattle.tb_http.specs.Message.{takes_body}
use Rattle.tb_http.specs.Stream.{Brings, Received}
use Rattle.tb_http.specs.Wire.{BeginsWithMessage, Faults, is_last}
use Rattle.tb_program.specs.Clock.{later, next}
use Rattle.tb_serve.specs.declared.serving.Exchange.{Exchange}
use Rattle.tb_serve.specs.declared.serving.ServeEnd.{ServeEnd}
use Rattle.tb_serve.specs.declared.serving.ServeFault.{ServeFault}
use Rattle.tb_serve.specs.declared.serving.ServeFault.TheVariants as fault
use Rattle.tb_serve.specs.declared.serving.MessageOutcome.{MessageOutcome}
use Rattle.tb_serve.specs.declared.serving.MessageOutcome.TheVariants.{Replied, Failed, Unread}
use Rattle.tb_serve.specs.Telling.{FailedAt, StandsAt, after, calls_in, failed_text, told_text, told_with}
use Rattle.tb_site.specs.declared.site.Site.{Site}

-- ---- moments

-- what the clock has left behind so many messages
abbrev pub left_by : List (Option ℕ) → List Received → List (Option ℕ)
left_by clock [] = clock
left_by clock (m ∷ ms) = left_by (later clock) ms

-- ---- answers and calls

-- the answer to a message, to which so many came before
abbrev pub answer_to : Site → State → Option ℕ → ℕ → Received → List ℕ
answer_to site s at before m =
    told_text (told_with site s m.message at) (is_last m.closes before) (takes_body m.message)

-- the calls among messages, at the clock's moments
abbrev pub calls_of : List (Option ℕ) → List Received → List Call
calls_of clock [] = []
calls_of clock (m ∷ ms) = calls_in m.message (next clock) ++ calls_of (later clock) ms

-- the answers to messages, each in the state that the calls before it led to
abbrev pub answers : Site → State → List (Option ℕ) → ℕ → List Received → List ℕ
answers site s clock before [] = []
answers site s clock before (m ∷ ms) =
    answer_to site s (next clock) before m
    ++ answers site (after s (calls_in m.message (next clock))) (later clock) (before + 1) ms

-- none of the messages closes the connection
abbrev pub none_closes : ℕ → List Received → Bool
none_closes before [] = true
none_closes before (m ∷ ms) = not (is_last m.closes before) && none_closes (before + 1) ms

-- the last of the messages closes the connection, and none before it
abbrev pub ends_last : ℕ → List Received → Bool
ends_last before [] = false
ends_last before (m ∷ []) = is_last m.closes before
ends_last before (m ∷ n ∷ ms) = not (is_last m.closes before) && ends_last (before + 1) (n ∷ ms)

-- ---- the answer to bytes that are no message

abbrev pub text_with : Option Answer → List ℕ → List ℕ
text_with None body = []
text_with (Some answer) body = answer_text answer body

unfoldable pub unread_text : WireFault → List ℕ
unread_text fault = text_with (fault_answer fault None true true) (body_of fault)

-- ---- one turn

-- behind a front the text is written, whole or up to some byte
abbrev pub Sends : Option (List ℕ) → Option (List ℕ) → List ℕ → List ℕ → Bool → Type 0
Sends old new front text true = Appends old new (front ++ text)
Sends old new front text false = (count : ℕ) × (count < length text)
    × Appends old new (front ++ take count text)

-- What came of a message that was read, which closes the connection or not, the text that answers it, and what stands then.
abbrev pub Handles : Site → State → Option ℕ → Bool → Message → MessageOutcome → List ℕ → (State → Type 0)
    → (State → Type 0) → Type 0
Handles site s at closes message Replied text now may_leave =
    (text ≡ told_text (told_with site s message at) closes (takes_body message))
    × StandsAt (after s (calls_in message at)) now may_leave
Handles site s at closes message (Failed fault) text now may_leave =
    (text ≡ failed_text fault (takes_body message))
    × FailedAt fault s (calls_in message at) now may_leave
Handles site s at closes message (Unread fault) text now may_leave = ⊥

-- what stands behind a message that was read, whatever it was told
abbrev pub Settles : State → Option ℕ → Message → MessageOutcome → (State → Type 0)
    → (State → Type 0) → Type 0
Settles s at message Replied now may_leave = StandsAt (after s (calls_in message at)) now may_leave
Settles s at message (Failed fault) now may_leave =
    FailedAt fault s (calls_in message at) now may_leave
Settles s at message (Unread fault) now may_leave = ⊥

-- Handled, with what was written of the text.
abbrev pub HandlesMessage : Site → State → Option ℕ → Bool → Message → Option (List ℕ)
    → Option (List ℕ) → MessageOutcome → Bool → (State → Type 0) → (State → Type 0) → Type 0
HandlesMessage site s at closes message old new turn is_whole now may_leave =
    (text : List ℕ) × Sends old new [] text is_whole
    × Handles site s at closes message turn text now may_leave

-- What comes of the bytes at the front of which the next message stands, if one does. What is left of them is told where the
-- connection goes on.
abbrev pub Turns : Site → State → List (Option ℕ) → ℕ → List ℕ → MessageOutcome → List ℕ → (State → Type 0)
    → (State → Type 0) → Option (List ℕ) → Bool → Type 0
Turns site s clock before bytes (Unread fault) text now may_leave left is_closing =
    Faults bytes fault × (text ≡ unread_text fault) × StandsAt s now may_leave
Turns site s clock before bytes Replied text now may_leave left is_closing =
    (m : Received) × (rest : List ℕ) × BeginsWithMessage bytes m.message m.closes rest
    × (left ≡ Some rest)
    × (is_closing ≡ is_last m.closes before)
    × Handles site s (next clock) (is_last m.closes before) m.message Replied text now may_leave
Turns site s clock before bytes (Failed fault) text now may_leave left is_closing =
    (m : Received) × (rest : List ℕ) × BeginsWithMessage bytes m.message m.closes rest
    × (left ≡ Some rest)
    × (is_closing ≡ is_last m.closes before)
    × Handles site s (next clock) (is_last m.closes before) m.message
    (Failed fault) text now may_leave

-- What came of the next message, what was written of its answer, and what stands then.
abbrev pub Exchanges : Site → State → List (Option ℕ) → ℕ → List ℕ → Option (List ℕ)
    → Option (List ℕ) → Exchange → (State → Type 0) → (State → Type 0) → Option (List ℕ)
    → Bool → Type 0
Exchanges site s clock before bytes old new exchange now may_leave left is_closing =
    (text : List ℕ) × Sends old new [] text exchange.is_whole
    × Turns site s clock before bytes exchange.turn text now may_leave left is_closing

-- ---- how a connection ends

abbrev pub unread_fault : WireFault → Option ServeFault
unread_fault wire.ReadFailed = Some fault.ReadFailed
unread_fault wire.Memory = Some fault.Memory
unread_fault wire.Ended = None
unread_fault wire.Torn = None
unread_fault wire.BadHead = None
unread_fault wire.HeadTooLong = None
unread_fault wire.Coding = None
unread_fault wire.NoLength = None
unread_fault wire.BodyTooLong = None
unread_fault wire.NoRoute = None
unread_fault wire.NoMethod = None
unread_fault wire.NoId = None
unread_fault wire.BadBody = None
unread_fault wire.NoClock = None

abbrev pub keep_fault : KeepFault → ServeFault
keep_fault keep.Memory = fault.Memory
keep_fault keep.Store = fault.Store

abbrev pub turn_fault : MessageOutcome → Option ServeFault
turn_fault Replied = None
turn_fault (Failed fault) = Some (keep_fault fault)
turn_fault (Unread fault) = unread_fault fault

abbrev pub exchange_fault : Exchange → Option ServeFault
exchange_fault exchange = if exchange.is_whole then turn_fault exchange.turn
    else Some fault.WriteFailed

-- a message was told what it asked for, and its answer written whole
abbrev pub goes_on : MessageOutcome → Bool → Bool
goes_on Replied is_whole = is_whole
goes_on (Failed fault) is_whole = false
goes_on (Unread fault) is_whole = false

-- a message was read, and an answer is owed
abbrev pub reads_one : MessageOutcome → ℕ
reads_one Replied = 1
reads_one (Failed fault) = 1
reads_one (Unread fault) = 0

abbrev pub owes_one : MessageOutcome → ℕ
owes_one Replied = 1
owes_one (Failed fault) = 1
owes_one (Unread fault) = if is_some (status_of fault) then 1 else 0

-- an answer was written whole
abbrev pub answers_one : Exchange → ℕ
answers_one exchange = if exchange.is_whole then owes_one exchange.turn else 0

-- the end behind so many messages that were read and answered, and an exchange
abbrev pub ended_by : ℕ → Exchange → ServeEnd
ended_by before exchange = record {
  messages = before + reads_one exchange.turn;
  answered = before + answers_one exchange;
  fault = exchange_fault exchange;
}

-- the end behind so many messages, all of which were answered
abbrev pub ended_well : ℕ → ServeEnd
ended_well before = record { messages = before; answered = before; fault = None }

-- the end where there was no memory to begin with
abbrev pub no_start : ServeEnd
no_start = record { messages = 0; answered = 0; fault = Some fault.Memory }

-- The connection ended behind messages that were all answered whole, the last of which closes it, and none before.
pub record IsClosed (site : Site) (s : State) (clock : List (Option ℕ)) (bytes : List ℕ)
    (old new : Option (List ℕ)) (now : State → Type 0) (may_leave : State → Type 0)
    (end : ServeEnd) : Type 0 where
  pub told : List Received
  pub left : List ℕ
  pub brings : Brings bytes told left
  pub last : ends_last 0 told ≡ true
  pub written : Appends old new (answers site s clock 0 told)
  pub stands : StandsAt (after s (calls_of clock told)) now may_leave
  pub counts : end ≡ ended_well (length told)

-- The connection ended behind messages that were all answered whole and none of which closes it, by an exchange that was
-- no whole answer to a message.
pub record IsEnded (site : Site) (s : State) (clock : List (Option ℕ)) (bytes : List ℕ)
    (old new : Option (List ℕ)) (now : State → Type 0) (may_leave : State → Type 0)
    (end : ServeEnd) : Type 0 where
  pub told : List Received
  pub left : List ℕ
  pub brings : Brings bytes told left
  pub unclosed : none_closes 0 told ≡ true
  pub exchange : Exchange
  pub ends : goes_on exchange.turn exchange.is_whole ≡ false
  pub text : List ℕ
  pub sends : Sends old new (answers site s clock 0 told) text exchange.is_whole
  pub turns : (rest : Option (List ℕ)) × (is_closing : Bool)
      × Turns site (after s (calls_of clock told)) (left_by clock told)
      (length told) left exchange.turn text now may_leave rest is_closing
  pub counts : end ≡ ended_by (length told) exchange

-- There was no memory to begin with.
pub record IsUnstarted (s : State) (old new : Option (List ℕ)) (now : State → Type 0)
    (may_leave : State → Type 0) (end : ServeEnd) : Type 0 where
  pub written : Appends old new []
  pub stands : StandsAt s now may_leave
  pub counts : end ≡ no_start

-- how the serving of a connection ends
abbrev pub IsServingEnd : Site → State → List (Option ℕ) → List ℕ → Option (List ℕ) → Option (List ℕ)
    → (State → Type 0) → (State → Type 0) → ServeEnd → Type 0
IsServingEnd site s clock bytes old new now may_leave end =
    IsClosed site s clock bytes old new now may_leave end
    ⊎ (IsEnded site s clock bytes old new now may_leave end
    ⊎ IsUnstarted s old new now may_leave end)
