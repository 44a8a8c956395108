-- Connections that take turns: what is done to them, what comes of it, and what a run makes of each connection.
use Rattle.std.specs.Prelude.{◌≡◌, ◌⊎◌, ℕ, ◌+◌, ◌==◌, Bool, true, false, if◌then◌else◌, List, [], ◌∷◌, ◌++◌, take}

-- What a connection holds that was not taken, how many of its messages were, whether no more are, and what it is still
-- to be sent.
pub record Talk : Type 0 where
  pub bytes : List ℕ
  pub messages : ℕ
  pub is_closing : Bool
  pub out : List ℕ

-- a connection of no bytes
abbrev pub silent : Talk
silent = record { bytes = []; messages = 0; is_closing = false; out = [] }

-- What is done to a connection; a turn is given something, as a moment.
pub data Happening (A : Type 0) : Type 0 where
  -- it is opened, in the place of one that is gone
  opens : Happening A
  -- these bytes come
  comes : List ℕ → Happening A
  -- it has its turn
  turns : A → Happening A
  -- so many bytes of what it is to be sent are handed to its socket
  goes : ℕ → Happening A

-- What comes of it. A text is whole, or there was no memory for it: then nothing of it is sent, and the connection
-- takes no more.
pub data Event (M : Type 0) : Type 0 where
  opened : Event M
  came : List ℕ → Event M
  -- there was no memory for bytes that came: it takes no more
  gone : Event M
  -- its next message was taken and handled, and told what it asked for
  took : M → Bool → Event M
  -- its next message was taken, and there was no memory to handle it: it gets this text, and takes no more
  failed : M → List ℕ → Bool → Event M
  -- its bytes were refused with this text, and it takes no more
  refused : List ℕ → Bool → Event M
  -- it had its turn, and nothing was taken
  rested : Event M
  -- these bytes were handed to its socket
  went : List ℕ → Event M

-- What a server does with messages.
pub record Serving (S A M : Type 0) : Type 1 where
  -- bytes begin with a message, and these are behind it
  pub Begins : List ℕ → M → List ℕ → Type 0
  -- what a message is told that there was no memory to handle
  pub Fails : M → List ℕ → Type 0
  -- bytes are refused with a text
  pub Refuses : List ℕ → List ℕ → Type 0
  -- no whole message is in these bytes yet
  pub Waits : List ℕ → Type 0
  -- what the turn was given in which a message was taken
  pub given : M → A
  -- the state that a message leads to, and what it is told to which so many came before on its connection
  pub after : S → M → S
  pub text : S → ℕ → M → List ℕ
  -- whether no message is taken behind it
  pub closes : ℕ → M → Bool

-- One thing that was done, to the connection of a place, and what came of it.
pub record Step (A M : Type 0) : Type 0 where
  pub place : ℕ
  pub happening : Happening A
  pub event : Event M

-- what is sent of a text
abbrev pub sent_of : Bool → List ℕ → List ℕ
sent_of is_whole text = if is_whole then text else []

-- the state after an event
abbrev pub after_event : {S A M : Type 0} → Serving S A M → S → Event M → S
after_event v s (took m is_whole) = v.after s m
after_event v s _ = s

-- the event is one that comes of what is done
abbrev pub Fits : {S A M : Type 0} → Serving S A M → Talk → Happening A → Event M → Type 0
Fits v old opens e = e ≡ opened
Fits v old (comes piece) e = (e ≡ came piece) ⊎ (e ≡ gone)
Fits v old (turns a) (took m is_whole) = v.given m ≡ a
Fits v old (turns a) (failed m text is_whole) = v.given m ≡ a
Fits v old (turns a) (refused text is_whole) = Unit {0}
Fits v old (turns a) rested = Unit {0}
Fits v old (turns a) _ = ⊥
Fits v old (goes count) e = e ≡ went (take count old.out)

-- what an event makes of its connection
abbrev pub Moves : {S A M : Type 0} → Serving S A M → S → Event M → Talk → Talk → Type 0
Moves v s opened old new = new ≡ silent
Moves v s (came piece) old new =
    new ≡ record {
      bytes = old.bytes ++ piece;
      messages = old.messages;
      is_closing = old.is_closing;
      out = old.out;
    }
Moves v s gone old new = new
    ≡ record { bytes = old.bytes; messages = old.messages; is_closing = true; out = old.out }
Moves v s (took m is_whole) old new =
    (rest : List ℕ) × v.Begins old.bytes m rest × (old.is_closing ≡ false)
    × (new ≡ record {
      bytes = rest;
      messages = old.messages + 1;
      is_closing = if is_whole then v.closes old.messages m else true;
      out = old.out ++ sent_of is_whole (v.text s old.messages m);
    })
Moves v s (failed m text is_whole) old new =
    (rest : List ℕ) × v.Begins old.bytes m rest × (old.is_closing ≡ false) × v.Fails m text
    × (new ≡ record {
      bytes = rest;
      messages = old.messages + 1;
      is_closing = true;
      out = old.out ++ sent_of is_whole text;
    })
Moves v s (refused text is_whole) old new =
    v.Refuses old.bytes text × (old.is_closing ≡ false)
    × (new ≡ record {
      bytes = old.bytes;
      messages = old.messages;
      is_closing = true;
      out = old.out ++ sent_of is_whole text;
    })
Moves v s rested old new = ((old.is_closing ≡ true) ⊎ v.Waits old.bytes) × (new ≡ old)
Moves v s (went front) old new =
    (rest : List ℕ) × (old.out ≡ front ++ rest)
    × (new ≡ record {
      bytes = old.bytes;
      messages = old.messages;
      is_closing = old.is_closing;
      out = rest;
    })

-- what it makes of a connection that is its own, or another
abbrev pub MovesIf : {S A M : Type 0} → Serving S A M → Bool → S → Event M → Talk → Talk → Type 0
MovesIf v true s e old new = Moves v s e old new
MovesIf v false s e old new = new ≡ old

-- A run over steps, in the order in which they are made, from a state and the connections of all places.
abbrev pub Run : {S A M : Type 0} → Serving S A M → S → (ℕ → Talk) → List (Step A M) → S
    → (ℕ → Talk) → Type 0
Run v s talks [] end later = (end ≡ s) × ((c : ℕ) → later c ≡ talks c)
Run v s talks (k ∷ ks) end later =
    Fits v (talks k.place) k.happening k.event
    × (mid : ℕ → Talk) × ((c : ℕ) → MovesIf v (k.place == c) s k.event (talks c) (mid c))
    × Run v (after_event v s k.event) mid ks end later

-- what was done, in order
abbrev pub done_in : {A M : Type 0} → List (Step A M) → List (ℕ × Happening A)
done_in [] = []
done_in (k ∷ ks) = (k.place, k.happening) ∷ done_in ks

-- ---- what a run makes of each connection

-- ---- of one event

abbrev pub opens_one : {M : Type 0} → Event M → Bool
opens_one opened = true
opens_one _ = false

abbrev pub loses_bytes : {M : Type 0} → Event M → Bool
loses_bytes gone = true
loses_bytes _ = false

-- the bytes that came
abbrev pub came_by : {M : Type 0} → Event M → List ℕ
came_by (came piece) = piece
came_by _ = []

-- the message that was taken
abbrev pub taken_by : {M : Type 0} → Event M → List M
taken_by (took m is_whole) = m ∷ []
taken_by (failed m text is_whole) = m ∷ []
taken_by _ = []

-- how many messages were taken
abbrev pub count_by : {M : Type 0} → ℕ → Event M → ℕ
count_by before (took m is_whole) = before + 1
count_by before (failed m text is_whole) = before + 1
count_by before _ = before

-- the message that was taken and handled
abbrev pub handled_by : {M : Type 0} → Event M → List M
handled_by (took m is_whole) = m ∷ []
handled_by _ = []

-- what is told, to which so many messages came before
abbrev pub told_by : {S A M : Type 0} → Serving S A M → S → ℕ → Event M → List ℕ
told_by v s before (took m is_whole) = sent_of is_whole (v.text s before m)
told_by v s before (failed m text is_whole) = sent_of is_whole text
told_by v s before (refused text is_whole) = sent_of is_whole text
told_by v s before _ = []

-- the bytes that were handed to the socket
abbrev pub went_by : {M : Type 0} → Event M → List ℕ
went_by (went front) = front
went_by _ = []

-- ---- of steps

-- no other connection is opened in this place
abbrev pub IsSame : {A M : Type 0} → ℕ → List (Step A M) → Type 0
IsSame c [] = Unit {0}
IsSame c (k ∷ ks) = ((if k.place == c then opens_one k.event else false) ≡ false) × IsSame c ks

-- the bytes that came on a connection
abbrev pub came_on : {A M : Type 0} → ℕ → List (Step A M) → List ℕ
came_on c [] = []
came_on c (k ∷ ks) = (if k.place == c then came_by k.event else []) ++ came_on c ks

-- the bytes that were brought to a connection
abbrev pub brought_by : {A : Type 0} → Happening A → List ℕ
brought_by (comes piece) = piece
brought_by _ = []

abbrev pub brought_to : {A : Type 0} → ℕ → List (ℕ × Happening A) → List ℕ
brought_to c [] = []
brought_to c (h ∷ hs) = (if h.0 == c then brought_by h.1 else []) ++ brought_to c hs

-- no bytes of a connection were let go of for want of memory
abbrev pub NoneGone : {A M : Type 0} → ℕ → List (Step A M) → Type 0
NoneGone c [] = Unit {0}
NoneGone c (k ∷ ks) = ((if k.place == c then loses_bytes k.event else false) ≡ false)
    × NoneGone c ks

-- the messages that were taken of a connection
abbrev pub taken_on : {A M : Type 0} → ℕ → List (Step A M) → List M
taken_on c [] = []
taken_on c (k ∷ ks) = (if k.place == c then taken_by k.event else []) ++ taken_on c ks

-- what a connection is told: each of its messages in the state that all messages before it, of whatever connection,
-- led to
abbrev pub told_on : {S A M : Type 0} → Serving S A M → ℕ → S → ℕ → List (Step A M) → List ℕ
told_on v c s before [] = []
told_on v c s before (k ∷ ks) =
    (if k.place == c then told_by v s before k.event else [])
    ++ told_on v c (after_event v s k.event)
    (if k.place == c then count_by before k.event else before) ks

-- what a connection was handed
abbrev pub went_on : {A M : Type 0} → ℕ → List (Step A M) → List ℕ
went_on c [] = []
went_on c (k ∷ ks) = (if k.place == c then went_by k.event else []) ++ went_on c ks

-- the messages of all connections that were handled, in that order
abbrev pub handled : {A M : Type 0} → List (Step A M) → List M
handled [] = []
handled (k ∷ ks) = handled_by k.event ++ handled ks

-- the state that messages lead to
abbrev pub led_to : {S A M : Type 0} → Serving S A M → S → List M → S
led_to v s [] = s
led_to v s (m ∷ ms) = led_to v (v.after s m) ms

-- ---- what a run says

-- a message stays at the front with more bytes behind it
abbrev pub IsSteady : {S A M : Type 0} → Serving S A M → Type 0
IsSteady {M = M} v =
    (bytes : List ℕ) (m : M) (rest piece : List ℕ) → v.Begins bytes m rest
    → v.Begins (bytes ++ piece) m (rest ++ piece)

-- bytes begin with these messages, and the rest is behind them
abbrev pub Brings : {S A M : Type 0} → Serving S A M → List ℕ → List M → List ℕ → Type 0
Brings v bytes [] rest = bytes ≡ rest
Brings v bytes (m ∷ ms) rest = (behind : List ℕ) × v.Begins bytes m behind × Brings v behind ms rest

-- none of these messages is behind one that closes, or behind the end
abbrev pub NoneBehind : {S A M : Type 0} → Serving S A M → Bool → ℕ → List M → Type 0
NoneBehind v is_closing before [] = Unit {0}
NoneBehind v is_closing before (m ∷ ms) = (is_closing ≡ false)
    × NoneBehind v (v.closes before m) (before + 1) ms

-- What a run has made of one connection: what came are the bytes that were brought to it; its messages are those that
-- these bring, none behind one that closes; and what it was handed, with what it is still to be sent, is what they are
-- told, in their order.
pub record IsServed {S A M : Type 0} (v : Serving S A M) (c : ℕ) (s : S) (old : Talk)
    (ks : List (Step A M))
    (new : Talk) : Type 0 where
  pub came : NoneGone c ks → came_on c ks ≡ brought_to c (done_in ks)
  pub brings : Brings v (old.bytes ++ came_on c ks) (taken_on c ks) new.bytes
  pub last : NoneBehind v old.is_closing old.messages (taken_on c ks)
  pub told : old.out ++ told_on v c s old.messages ks ≡ went_on c ks ++ new.out

-- the last of these steps opens a connection in this place, or there are none
abbrev pub EndsOpening : {A M : Type 0} → ℕ → List (Step A M) → Type 0
EndsOpening c [] = Unit {0}
EndsOpening c (k ∷ []) = (if k.place == c then opens_one k.event else false) ≡ true
EndsOpening c (k ∷ l ∷ ks) = EndsOpening c (l ∷ ks)

-- what a connection is after such steps: what it was at first, or a new one
abbrev pub begins_as : {A M : Type 0} → ℕ → (ℕ → Talk) → List (Step A M) → Talk
begins_as c talks [] = talks c
begins_as c talks (k ∷ ks) = silent

-- it is what is left in the end, unless steps follow
abbrev pub IsLeft : {A M : Type 0} → List (Step A M) → Talk → Talk → Type 0
IsLeft [] last left = last ≡ left
IsLeft (k ∷ ks) last left = Unit {0}

-- Each connection, from where it is opened on, up to anywhere before another is opened in its place, is served what its
-- own messages ask for.
abbrev pub EachServed : {S A M : Type 0} → Serving S A M → S → (ℕ → Talk) → List (Step A M)
    → (ℕ → Talk) → Type 0
EachServed {A = A} {M = M} v s talks ks later =
    (c : ℕ) (before own rest : List (Step A M)) → before ++ (own ++ rest) ≡ ks → EndsOpening c before
    → IsSame c own
    → (last : Talk) × IsServed v c (led_to v s (handled before)) (begins_as c talks before) own last
    × IsLeft rest last (later c)

-- ---- one connection alone

-- all steps are of one place
abbrev pub AllAt : {A M : Type 0} → ℕ → List (Step A M) → Type 0
AllAt c [] = Unit {0}
AllAt c (k ∷ ks) = ((k.place == c) ≡ true) × AllAt c ks

-- nothing failed, and nothing was refused
abbrev pub goes_well : {M : Type 0} → Event M → Bool
goes_well gone = false
goes_well (took m is_whole) = is_whole
goes_well (failed m text is_whole) = false
goes_well (refused text is_whole) = false
goes_well _ = true

abbrev pub AllWell : {A M : Type 0} → List (Step A M) → Type 0
AllWell [] = Unit {0}
AllWell (k ∷ ks) = (goes_well k.event ≡ true) × AllWell ks

-- what messages are told that nobody else's come between
abbrev pub texts : {S A M : Type 0} → Serving S A M → S → ℕ → List M → List ℕ
texts v s before [] = []
texts v s before (m ∷ ms) = v.text s before m ++ texts v (v.after s m) (before + 1) ms
