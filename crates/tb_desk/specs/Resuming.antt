-- Sessions that send a list, each from where the one before it stopped: where they lead, and what they are told.
use Rattle.std.specs.Prelude.{◌≡◌, ◌⊎◌, ℕ, ◌+◌, ◌<◌, ◌≤◌, false, List, [], ◌∷◌, ◌++◌, Some, length, take, slice_get}
use Rattle.tb_calls.specs.declared.call.Call.{Call}
use Rattle.tb_calls.specs.declared.reply.Reply.{Reply}
use Rattle.tb_calls.specs.declared.call.KeptReply.{KeptReply}
use Rattle.tb_calls.specs.Call.{State, kept_for, plain, once, reply, replies_to}
use Rattle.tb_desk.specs.Sessions.{IsCopy, Sent, Sending, WasKnown, calls_of, comes_at_once, next_after, replies_at, stands}

-- The calls sent until a stop, how many were answered, and how many stand.
pub record Session : Type 0 where
  pub calls : List Call
  pub answered : ℕ
  pub stood : ℕ

-- where sessions lead, one after another
abbrev pub led_to : State → List Session → State
led_to s [] = s
led_to s (x ∷ xs) = led_to (plain s (once s (take x.stood x.calls))) xs

-- the calls that stand
abbrev pub standing : List Session → List Call
standing [] = []
standing (x ∷ xs) = take x.stood x.calls ++ standing xs

-- the replies given, session by session
abbrev pub told : State → List Session → List (List Reply)
told s [] = []
told s (x ∷ xs) =
    take x.answered (replies_to s x.calls) ∷ told (plain s (once s (take x.stood x.calls))) xs

abbrev pub session_of : Sending → Session
session_of x = record { calls = calls_of x.sent; answered = x.answered; stood = x.stood }

abbrev pub sessions_of : List Sending → List Session
sessions_of [] = []
sessions_of (x ∷ xs) = session_of x ∷ sessions_of xs

-- A copy of a call of the list before this number comes: at once and with the same key, or the call's caller was known when it came.
pub record ComesAgain (s : State) (calls : List Call) (next : ℕ) (x : Sent) : Type 0 where
  pub first : Call
  pub before : x.number < next
  pub is_first : slice_get calls x.number ≡ Some first
  pub copy : IsCopy first x.call
  pub known : comes_at_once calls next x ≡ false → WasKnown s calls x.number

-- From the call of this number on, the calls of the list come in order and as they are. In between or behind, copies of calls that came
-- before come.
abbrev pub ComeInOrder : State → List Call → ℕ → List Sent → Type 0
ComeInOrder s calls next [] = Unit {0}
ComeInOrder s calls next (x ∷ xs) =
    ((x.number ≡ next) × (slice_get calls next ≡ Some x.call) × ComeInOrder s calls (next + 1) xs)
    ⊎ (ComesAgain s calls next x × ComeInOrder s calls next xs)

-- The calls that stand, session after session, come in the list's order, until all of it came. Of those that don't stand nothing is
-- asked: a call that is sent again for the first time that it stands is, with its moment, the call of the list.
abbrev pub Resume : State → List Call → ℕ → List Sending → Type 0
Resume s calls next [] = next ≡ length calls
Resume s calls next (x ∷ xs) = (x.answered ≤ x.stood) × ComeInOrder s calls next (stands x)
    × Resume s calls (next_after next (stands x)) xs

-- Sessions in a row lead to the state after the calls that stand, each once.
abbrev pub SessionsJoin : Type 0
SessionsJoin = (s : State) (xs : List Session) → led_to s xs ≡ plain s (once s (standing xs))

-- Sessions that send a list, in which calls may come again at any moment, lead to the state of the list handled once; and each answer is
-- the reply to that call of the list after the calls before it, but for a copy that isn't heard when it comes. The list is of all calls,
-- whoever sends them over whichever connection, so that other people's calls may come between a call and its coming again.
abbrev pub SessionsResume : Type 0
SessionsResume = (s : State) (calls : List Call) (xs : List Sending) → Resume s calls 0 xs
    → (led_to s (sessions_of xs) ≡ plain s (once s calls))
    × (told s (sessions_of xs) ≡ replies_at s calls 0 xs)

-- What a call was told whose caller was known is the reply that is kept in the end, where its content is the one kept.
abbrev pub ToldIsKept : Type 0
ToldIsKept = (s : State) (calls : List Call) (n : ℕ) (c : Call) (kept : KeptReply)
    → slice_get calls n ≡ Some c → WasKnown s calls n
    → kept_for (plain s (once s calls)) c ≡ Some kept → kept.content ≡ c.content
    → reply s (take n calls) c ≡ kept.reply
