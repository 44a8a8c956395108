-- The message at the front of the bytes that a connection brings (RFC 9112, sections 2 to 6), by the grammar of heads.
use Rattle.std.specs.Prelude.{◌≡◌, ◌⊎◌, ℕ, ◌<◌, ◌≤◌, ◌+◌, nat_le, Bool, ◌||◌, List, [], length, take, drop, Option, Ok, Err}
use Rattle.httparse.specs.Grammar.{RequestHead, print_request, ReadsRequest, HasNoRequest}
use Rattle.tb_http.specs.declared.fault.WireFault.{WireFault}
use Rattle.tb_http.specs.declared.fault.WireFault.TheVariants.{Ended, Torn, ReadFailed, BadHead, HeadTooLong, Coding, NoLength, BodyTooLong, NoRoute, NoMethod, NoId, BadBody, NoClock, Memory}
use Rattle.tb_http.specs.declared.message.Head.{Head}
use Rattle.tb_http.specs.declared.message.Message.{Message}
use Rattle.tb_http.specs.Head.{HasBadLine}
use Rattle.tb_http.specs.Message.{head_from, message_from}
use Rattle.tb_http.specs.Framing.{body_length}
use Rattle.tb_http.specs.Closing.{message_limit, asks_to_close}

-- the longest head
-- Rule: a head has 16,384 bytes at most. Refused as HeadTooLong. Tried by hostile_a.
abbrev pub head_limit : ℕ
head_limit = 16384

-- the bytes begin with a whole head that isn't too long
pub record BeginsWithHead (bytes : List ℕ) (head : Head) (behind : List ℕ) : Type 0 where
  pub tree : RequestHead
  pub reads : ReadsRequest bytes tree behind
  pub short : length (print_request tree) ≤ head_limit
  pub says : head ≡ head_from tree

-- the bytes begin with a whole message, which closes the connection or not
pub record BeginsWithMessage (bytes : List ℕ) (message : Message) (closes : Bool)
    (rest : List ℕ) : Type 0 where
  pub head : Head
  pub behind : List ℕ
  pub begins : BeginsWithHead bytes head behind
  pub size : ℕ
  pub framed : body_length head ≡ Ok size
  pub whole : size ≤ length behind
  pub says : message ≡ message_from head (take size behind)
  pub closing : closes ≡ asks_to_close head
  pub rest_is : rest ≡ drop size behind

-- a whole head is there, and is refused
pub record RefusesHead (bytes : List ℕ) (fault : WireFault) : Type 0 where
  pub head : Head
  pub behind : List ℕ
  pub begins : BeginsWithHead bytes head behind
  pub framed : body_length head ≡ Err fault

-- a whole head is there, and not its whole body
pub record LacksBody (bytes : List ℕ) : Type 0 where
  pub head : Head
  pub behind : List ℕ
  pub begins : BeginsWithHead bytes head behind
  pub size : ℕ
  pub framed : body_length head ≡ Ok size
  pub short : length behind < size

-- no whole head is in these bytes, and one may still come of them
abbrev pub IsOpen : List ℕ → Type 0
IsOpen bytes = HasNoRequest bytes × ¬ (HasBadLine bytes)

-- no message can be read off the bytes, by their form alone
abbrev pub Breaks : List ℕ → WireFault → Type 0
Breaks bytes Ended = bytes ≡ []
Breaks bytes Torn = (IsOpen bytes × (0 < length bytes) × (length bytes ≤ head_limit))
    ⊎ LacksBody bytes
Breaks bytes BadHead = HasBadLine (take head_limit bytes)
Breaks bytes HeadTooLong = IsOpen (take head_limit bytes) × (head_limit < length bytes)
-- the reader and memory may fail at any point
Breaks bytes ReadFailed = Unit {0}
Breaks bytes Memory = Unit {0}
-- these are found in a whole head or a whole message
Breaks bytes Coding = ⊥
Breaks bytes NoLength = ⊥
Breaks bytes BodyTooLong = ⊥
Breaks bytes NoRoute = ⊥
Breaks bytes NoMethod = ⊥
Breaks bytes NoId = ⊥
Breaks bytes BadBody = ⊥
Breaks bytes NoClock = ⊥

-- the fault of bytes that don't begin with a whole message
abbrev pub Faults : List ℕ → WireFault → Type 0
Faults bytes fault = RefusesHead bytes fault ⊎ Breaks bytes fault

-- what a reader of messages still brings, where its bytes are known; how many messages it has brought; and
-- whether the connection is closed after the last one
pub record ReaderState : Type 0 where
  pub bytes : Option (List ℕ)
  pub messages : ℕ
  pub is_closing : Bool

-- the connection is closed after this message, to which others came before
abbrev pub is_last : Bool → ℕ → Bool
is_last closes before = closes || nat_le message_limit (before + 1)
