-- How the server handles the messages of its connections, and what is done to these.
use Rattle.std.specs.Prelude.{◌≡◌, ℕ, List, [], ◌∷◌, ◌++◌, Option, ◌==◌, Bool, false, if◌then◌else◌, Some, None, Result, Ok, Err, get_or, nat_lt}
use Rattle.tb_calls.specs.declared.call.Call.{Call}
use Rattle.tb_calls.specs.declared.fault.KeepFault.{KeepFault}
use Rattle.tb_calls.specs.declared.fault.KeepFault.TheVariants as keep
use Rattle.tb_calls.specs.Call.{State}
use Rattle.tb_http.specs.declared.fault.WireFault.{WireFault}
use Rattle.tb_http.specs.Inbox.{HasFault, IsUnfinished}
use Rattle.tb_http.specs.Message.{takes_body}
use Rattle.tb_http.specs.Stream.{Received}
use Rattle.tb_http.specs.Wire.{BeginsWithMessage, is_last}
use Rattle.tb_serve.specs.Serving.{answer_to, unread_text}
use Rattle.tb_serve.specs.Telling.{after, calls_in, failed_text, StandsAt}
use Rattle.tb_serve.specs.Turns.{Serving, Event, gone, took, failed, refused, Fits, Moves, Run, Step, Talk, after_event, done_in, silent}
use Rattle.tb_site.specs.declared.site.Site.{Site}
use Rattle.tb_calls.specs.Leaving.{StandsAfter}
use Rattle.tb_serve.specs.declared.happening.PeerEvent.{PeerEvent}
use Rattle.tb_serve.specs.declared.happening.PeerEvent.TheVariants.{Opened, Came, Turn, Went}
use Rattle.tb_serve.specs.declared.serving.ServeFault.{ServeFault}
use Rattle.tb_serve.specs.declared.serving.ServeFault.TheVariants.{ReadFailed, WriteFailed, Store, Memory}
use Rattle.tb_serve.specs.Turns as turns

-- a message that was read, and the moment that the clock gave then, if it did
pub record Timed : Type 0 where
  pub received : Received
  pub at : Option ℕ

-- the calls of a message
abbrev pub calls_at : Timed → List Call
calls_at m = calls_in m.received.message m.at

-- the calls of messages, in the order in which these were handled
abbrev pub calls_among : List Timed → List Call
calls_among [] = []
calls_among (m ∷ ms) = calls_at m ++ calls_among ms

-- The server with this page, where messages that get no reply have met this fault.
abbrev pub server_at : Site → KeepFault → Serving State (Option ℕ) Timed
server_at site fault = record {
  Begins = λ bytes m rest. BeginsWithMessage bytes m.received.message m.received.closes rest;
  Fails = λ m text. text ≡ failed_text fault (takes_body m.received.message);
  Refuses = λ bytes text. (wrong : WireFault) × HasFault bytes wrong × (text ≡ unread_text wrong);
  Waits = IsUnfinished;
  given = λ m. m.at;
  after = λ s m. after s (calls_at m);
  text = λ s before m. answer_to site s m.at before m.received;
  closes = λ before m. is_last m.received.closes before;
}

-- the server while the store is well
abbrev pub server : Site → Serving State (Option ℕ) Timed
server site = server_at site keep.Memory

-- ---- what is done to the connections, and what comes of it

-- what is done
abbrev pub done_of : PeerEvent → turns.Happening (Option ℕ)
done_of Opened = turns.opens
done_of (Came piece) = turns.comes piece.now
done_of (Turn at) = turns.turns at
done_of (Went count) = turns.goes count

-- the connection of a place
abbrev pub talk_at : List Talk → ℕ → Talk
talk_at talks c = get_or talks c silent

-- the fault that ends a connection
abbrev pub fault_of : Event Timed → Option ServeFault
fault_of gone = Some Memory
fault_of (took m is_whole) = if is_whole then None else Some WriteFailed
fault_of (failed m text is_whole) = if is_whole then None else Some WriteFailed
fault_of (refused text is_whole) = if is_whole then None else Some WriteFailed
fault_of _ = None

-- An event of the server came of what was done, and the desk stands where it leads.
abbrev pub Comes : Site → Option ServeFault → State → turns.Happening (Option ℕ) → Talk → Talk
    → (State → Type 0) → (State → Type 0) → Type 0
Comes site fault s done old new now stops =
    (e : Event Timed) × Fits (server site) old done e × (fault_of e ≡ fault)
    × Moves (server site) s e old new
    × StandsAt (after_event (server site) s e) now stops

-- The store failed on a message that was taken: its call may have acted, it is told of the failure, and the connection
-- takes no more.
abbrev pub Stops : Site → State → turns.Happening (Option ℕ) → Talk → Talk → (State → Type 0)
    → (State → Type 0) → Type 0
Stops site s done old new now stops =
    (m : Timed) × (text : List ℕ) × (is_whole : Bool)
    × Fits (server_at site keep.Store) old done (failed m text is_whole)
    × Moves (server_at site keep.Store) s (failed m text is_whole) old new
    × StandsAfter s (calls_at m) 0 now stops

-- what came of one thing that was done to a connection
abbrev pub HappensTo : {T : Type 0} → Site → Result T ServeFault → State
    → turns.Happening (Option ℕ) → Talk → Talk
    → (State → Type 0) → (State → Type 0) → Type 0
HappensTo site (Ok x) s done old new now stops = Comes site None s done old new now stops
HappensTo site (Err Store) s done old new now stops = Stops site s done old new now stops
HappensTo site (Err Memory) s done old new now stops =
    Comes site (Some Memory) s done old new now stops
HappensTo site (Err WriteFailed) s done old new now stops =
    Comes site (Some WriteFailed) s done old new now stops
HappensTo site (Err ReadFailed) s done old new now stops = ⊥

-- the same among all connections: those of other places stay as they were
abbrev pub Happens : {T : Type 0} → Site → Result T ServeFault → State → ℕ
    → turns.Happening (Option ℕ)
    → (ℕ → Talk) → (ℕ → Talk) → (State → Type 0) → (State → Type 0) → Type 0
Happens site r s place done talks later now stops =
    HappensTo site r s done (talks place) (later place) now stops
    × ((c : ℕ) → (place == c) ≡ false → later c ≡ talks c)

-- ---- one thing after the other

-- what is done, at places that there are
abbrev pub done_at : ℕ → List (ℕ × PeerEvent) → List (ℕ × turns.Happening (Option ℕ))
done_at count [] = []
done_at count (h ∷ hs) = if nat_lt h.0 count then (h.0, done_of h.1) ∷ done_at count hs
    else done_at count hs

-- A run of the server was made of these things that were done, and the desk stands at its end.
abbrev pub Plays : Site → State → List (ℕ × turns.Happening (Option ℕ)) → (ℕ → Talk) → (ℕ → Talk)
    → (State → Type 0) → (State → Type 0) → Type 0
Plays site s done talks later now stops =
    (ks : List (Step (Option ℕ) Timed)) × (end : State) × (done_in ks ≡ done)
    × Run (server site) s talks ks end later
    × StandsAt end now stops

-- The same up to one of them, on which the store failed.
pub record IsStopped (site : Site) (s : State) (done : List (ℕ × turns.Happening (Option ℕ)))
    (talks later : ℕ → Talk)
    (now stops : State → Type 0) : Type 0 where
  pub ks : List (Step (Option ℕ) Timed)
  pub end : State
  pub middle : ℕ → Talk
  pub place : ℕ
  pub last : turns.Happening (Option ℕ)
  pub rest : List (ℕ × turns.Happening (Option ℕ))
  pub done_is : done_in ks ++ (place, last) ∷ rest ≡ done
  pub run : Run (server site) s talks ks end middle
  pub stopped : Stops site end last (middle place) (later place) now stops
  pub others : (c : ℕ) → (place == c) ≡ false → later c ≡ middle c
