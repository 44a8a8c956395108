-- What is asked of a server, and what comes of it.
use Rattle.std.specs.Prelude.{◌≡◌, ◌<◌, ◌⊎◌, ℕ, ◌*◌, min, false, true, List, [], ◌∷◌, ◌++◌, All, length, Result, Ok, Err}
use Rattle.tb_client.specs.declared.answer.Reply.{Reply}
use Rattle.tb_client.specs.declared.asking.AskFault.{AskFault}
use Rattle.tb_client.specs.declared.asking.AskFault.TheVariants.{NoAnswer, Memory}
use Rattle.tb_client.specs.Answer.{IsWholeAnswer, asks_again}

-- one thing that happened between a client and a server
pub data Event : Type 0 where
  -- on a new connection these bytes were sent whole, and these came until it ended
  asked : List ℕ → List ℕ → Event
  -- these bytes were sent, and no more of what was to be sent
  torn : List ℕ → Event
  -- so many milliseconds went by
  waited : ℕ → Event
  -- the time for asking was over
  late : Event

-- the text begins with these bytes
abbrev pub IsFront : List ℕ → List ℕ → Type 0
IsFront front text = (rest : List ℕ) × (text ≡ front ++ rest)

-- no answer came by which the asking ends
abbrev pub BringsNone : List ℕ → Type 0
BringsNone came = (reply : Reply) → IsWholeAnswer came reply → asks_again reply.status ≡ true

-- a try without an answer: the message or a front of it is sent, and nothing else, and no answer comes by which the asking ends
abbrev pub IsTry : List ℕ → Event → Type 0
IsTry message (asked sent came) = (sent ≡ message) × BringsNone came
IsTry message (torn sent) = IsFront sent message
IsTry message (waited pause) = ⊥
IsTry message late = ⊥

-- how often a message is sent at most
abbrev pub most_tries : ℕ
most_tries = 1000000

-- the pause behind the first try, in milliseconds
abbrev pub first_pause : ℕ
first_pause = 100

-- the pause behind the next try: twice as long, and 5 seconds at most
abbrev pub next_pause : ℕ → ℕ
next_pause pause = min 5000 (pause * 2)

-- tries with a pause behind each, the first of this length
abbrev pub with_pauses : ℕ → List Event → List Event
with_pauses pause [] = []
with_pauses pause (try ∷ more) = try ∷ waited pause ∷ with_pauses (next_pause pause) more

-- what happens while no answer comes: tries, each with its pause behind it
abbrev pub turns_of : List Event → List Event
turns_of tries = with_pauses first_pause tries

-- behind turns without an answer, one more try brought this answer to the whole message
pub record IsAnswered (message : List ℕ) (happened : List Event) (reply : Reply) : Type 0 where
  pub tries : List Event
  pub failed : All (IsTry message) tries
  pub few : length tries < most_tries
  pub came : List ℕ
  pub last : happened ≡ turns_of tries ++ asked message came ∷ []
  pub is : IsWholeAnswer came reply
  pub final : asks_again reply.status ≡ false

-- behind turns without an answer, one more try brought none, and then the time was over
pub record IsLate (message : List ℕ) (happened : List Event) : Type 0 where
  pub tries : List Event
  pub failed : All (IsTry message) tries
  pub few : length tries < most_tries
  pub tried : Event
  pub fails : IsTry message tried
  pub last : happened ≡ turns_of tries ++ tried ∷ late ∷ []

-- it was sent as often as can be, and no time was over
pub record IsSentOut (message : List ℕ) (happened : List Event) : Type 0 where
  pub tries : List Event
  pub failed : All (IsTry message) tries
  pub all : length tries ≡ most_tries
  pub whole : happened ≡ turns_of tries

-- behind turns without an answer, there was no memory to read what one more try brought
pub record IsUnread (message : List ℕ) (happened : List Event) : Type 0 where
  pub tries : List Event
  pub failed : All (IsTry message) tries
  pub few : length tries < most_tries
  pub came : List ℕ
  pub last : happened ≡ turns_of tries ++ asked message came ∷ []

abbrev pub EndsBy : List ℕ → List Event → Result Reply AskFault → Type 0
EndsBy message happened (Ok reply) = IsAnswered message happened reply
EndsBy message happened (Err NoAnswer) = IsLate message happened ⊎ IsSentOut message happened
EndsBy message happened (Err Memory) = IsUnread message happened
