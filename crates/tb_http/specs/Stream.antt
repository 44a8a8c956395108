-- The messages of a whole stream.
use Rattle.std.specs.Prelude.{◌≡◌, ℕ, Bool, List, [], ◌∷◌, ◌++◌}
use Rattle.tb_http.specs.declared.message.Message.{Message}
use Rattle.tb_http.specs.Wire.{BeginsWithMessage}
use Rattle.tb_http.specs.Inbox.{IsUnfinished}

-- A message that was read, and whether its sender closes the connection after it.
pub record Received : Type 0 where
  pub message : Message
  pub closes : Bool

-- bytes begin with these messages, and the rest is behind them
abbrev pub Brings : List ℕ → List Received → List ℕ → Type 0
Brings bytes [] rest = bytes ≡ rest
Brings bytes (m ∷ ms) rest = (behind : List ℕ) × BeginsWithMessage bytes m.message m.closes behind
    × Brings behind ms rest

-- more bytes bring what the first of them bring, and leave more
abbrev pub BringsMore : Type 0
BringsMore = (bytes more : List ℕ) (ms : List Received) (rest : List ℕ) → Brings bytes ms rest
    → Brings (bytes ++ more) ms (rest ++ more)

-- Bytes are read in one way only, up to what is no whole message, in whatever pieces they come and whenever messages are taken.
abbrev pub OneStream : Type 0
OneStream =
    (bytes : List ℕ) (ms ns : List Received) (rest other : List ℕ)
    → Brings bytes ms rest → IsUnfinished rest → Brings bytes ns other → IsUnfinished other
    → (ms ≡ ns) × (rest ≡ other)
