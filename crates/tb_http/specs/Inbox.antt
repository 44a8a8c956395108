-- What the bytes that came so far bring.
use Rattle.std.specs.Prelude.{◌≡◌, ◌⊎◌, ℕ, ◌+◌, ◌≤◌, Bool, List, ◌++◌, length, drop, Ok}
use Rattle.tb_http.specs.declared.fault.WireFault.{WireFault}
use Rattle.tb_http.specs.declared.fault.WireFault.TheVariants.{Ended, Torn}
use Rattle.tb_http.specs.declared.begun.Begun.{Begun}
use Rattle.tb_http.specs.Wire.{BeginsWithHead, Breaks, Faults, head_limit}
use Rattle.tb_http.specs.Framing.{body_length, body_limit}
use Rattle.tb_http.specs.Closing.{asks_to_close}

-- no whole message is in these bytes, and one may still come of them: if they ended here, they would end before a message or within it
abbrev pub IsUnfinished : List ℕ → Type 0
IsUnfinished bytes = Breaks bytes Ended ⊎ Breaks bytes Torn

-- these bytes have this fault, whatever comes behind them
abbrev pub HasFault : List ℕ → WireFault → Type 0
HasFault bytes fault = (more : List ℕ) → Faults (bytes ++ more) fault

-- the bytes begin with a whole head, which is not refused
pub record IsBegun (bytes : List ℕ) (begun : Begun) : Type 0 where
  pub inside : begun.len ≤ length bytes
  pub bound : begun.len + begun.size ≤ head_limit + body_limit
  pub begins : BeginsWithHead bytes begun.head (drop begun.len bytes)
  pub framed : body_length begun.head ≡ Ok begun.size
  pub closing : begun.closes ≡ asks_to_close begun.head

-- the message at the front has so many bytes in all, head and body; 0 where its head was not read
abbrev pub Wants : List ℕ → ℕ → Type 0
Wants bytes wanted = (wanted ≡ 0)
    ⊎ ((begun : Begun) × IsBegun bytes begun × (wanted ≡ begun.len + begun.size))

-- the bytes that came and were not taken; how many messages were; and whether the connection is closed after the last one
pub record Held : Type 0 where
  pub bytes : List ℕ
  pub messages : ℕ
  pub is_closing : Bool
