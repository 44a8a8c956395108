-- What the machine does on a line to a server, and which events of the line that is.
use Rattle.std.specs.Prelude.{◌≡◌, ◌≤◌, ◌<◌, ◌⊎◌, ℕ, ◌-◌, max, Bool, true, false, List, [], ◌∷◌, ◌++◌}
use Rattle.std.proofs.Common.{◌∙◌, ap, append_assoc, subst, sym}
use Rattle.tb_client.specs.Asking.{Event, asked, late, torn, waited}

-- one thing that the machine did
pub data Wire : Type 0 where
  -- a connection to this server was asked for, for so many seconds, and is there or isn't
  opened : List ℕ → ℕ → Bool → Wire
  -- these bytes went
  sent : List ℕ → Wire
  -- so many bytes at most were waited for until the connection ended, and these came
  came : ℕ → List ℕ → Wire
  -- so many milliseconds were slept
  slept : ℕ → Wire
  -- so many seconds had gone by
  passed : ℕ → Wire

-- how long a server may still be asked, and a second at least
abbrev pub seconds_left : ℕ → ℕ → ℕ
seconds_left seconds gone = max (seconds - gone) 1

-- the longest answer that is taken
abbrev pub longest_answer : ℕ
longest_answer = 268435456

-- a connection to the server was asked for, for the time that was left
abbrev pub opening : List ℕ → ℕ → ℕ → Bool → List Wire → List Wire
opening server seconds gone is_there more =
    passed gone ∷ opened server (seconds_left seconds gone) is_there ∷ more

-- these calls of the machine are one event of a line to a server that is asked for so many seconds
abbrev pub IsEventBy : List ℕ → ℕ → List Wire → Event → Type 0
IsEventBy server seconds wires (asked message reply) = (gone : ℕ)
    × (wires ≡ opening server seconds gone true (sent message ∷ came longest_answer reply ∷ []))
IsEventBy server seconds wires (torn front) = (gone : ℕ)
    × (((front ≡ []) × (wires ≡ opening server seconds gone false []))
    ⊎ (wires ≡ opening server seconds gone true (sent front ∷ [])))
IsEventBy server seconds wires (waited pause) = (gone : ℕ)
    × (gone < seconds) × (wires ≡ passed gone ∷ slept pause ∷ [])
IsEventBy server seconds wires late = (gone : ℕ)
    × (seconds ≤ gone) × (wires ≡ passed gone ∷ [])

-- they are these events, one after the other
abbrev pub AreEventsBy : List ℕ → ℕ → List Wire → List Event → Type 0
AreEventsBy server seconds wires [] = wires ≡ []
AreEventsBy server seconds wires (event ∷ events) = (first rest : List Wire) × (wires ≡ first ++ rest)
    × IsEventBy server seconds first event × AreEventsBy server seconds rest events

module _ {D : Type 0} (follows : List Wire → D → D → Type 0) where
  -- the machine led from one line to the other by these events, and the line is still to that server
  abbrev pub Leads : List Event → List ℕ → List ℕ → ℕ → ℕ → D → D → Type 0
  Leads events server later seconds more old new = (later ≡ server) × (more ≡ seconds)
      × (wires : List Wire) × follows wires old new × AreEventsBy server seconds wires events

events_joined : (server : List ℕ) (seconds : ℕ) (first more : List Event) (v w : List Wire)
    → AreEventsBy server seconds v first → AreEventsBy server seconds w more → AreEventsBy server seconds (v ++ w) (first ++ more)
events_joined server seconds [] more v w p q = subst (λ v. AreEventsBy server seconds (v ++ w) more) (sym p) q
events_joined server seconds (event ∷ first) more v w p q =
    (p.0, p.1 ++ w, ap (λ wires. wires ++ w) p.2 ∙ append_assoc p.0 p.1 w, p.3, events_joined server seconds first more p.1 w p.4 q)

pub leads_joined : {D : Type 0} (follows : List Wire → D → D → Type 0)
    → ((first more : List Wire) (a b c : D) → follows first a b → follows more b c → follows (first ++ more) a c)
    → (first more : List Event) (s t u : List ℕ) (l m n : ℕ) (a b c : D)
    → Leads follows first s t l m a b → Leads follows more t u m n b c → Leads follows (first ++ more) s u l n a c
leads_joined follows joined first more s t u l m n a b c p q =
    let events = subst (λ server. AreEventsBy server l q.2 more) p.0 (subst (λ seconds. AreEventsBy t seconds q.2 more) p.1 q.4) in
    (q.0 ∙ p.0, q.1 ∙ p.1, p.2 ++ q.2, joined p.2 q.2 a b c p.3 q.3, events_joined s l first more p.2 q.2 p.4 events)
