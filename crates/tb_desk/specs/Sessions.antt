-- Sessions: calls that are sent, of which the first ones are answered and stand, until a stop.
use Rattle.std.specs.Prelude.{◌≡◌, ℕ, ◌+◌, ◌==◌, nat_le, Bool, true, ◌&&◌, ◌||◌, if◌then◌else◌, List, [], ◌∷◌, Option, Some, map, take, slice_get}
use Rattle.std.specs.List.{cons_option}
use Rattle.std.specs.Option.{option_map}
use Rattle.tb_board.specs.World.{has_key}
use Rattle.tb_core.specs.GoodLaws.{own_keys}
use Rattle.tb_calls.specs.declared.call.Call.{Call}
use Rattle.tb_calls.specs.declared.reply.Reply.{Reply}
use Rattle.tb_calls.specs.Call.{State, is_heard, is_known, once, plain, reply, unknown_caller}

-- ---- a list that is sent in sessions

-- This call is a copy of that one: of the same person, identifier and content, and where it changes the person's own key, from the same
-- key to the same key. Its own key and its moment may be others.
pub record IsCopy (first copy : Call) : Type 0 where
  pub member : copy.member ≡ first.member
  pub id : copy.id ≡ first.id
  pub content : copy.content ≡ first.content
  pub own : own_keys copy.command ≡ own_keys first.command

-- This call is that one again: a copy with the same key.
pub record IsAgain (first again : Call) : Type 0 where
  pub copy : IsCopy first again
  pub key : again.key ≡ first.key

-- A call that is sent: the call of this number in a list, or a copy of it.
pub record Sent : Type 0 where
  pub number : ℕ
  pub call : Call

abbrev pub calls_of : List Sent → List Call
calls_of sent = map (λ (x : Sent). x.call) sent

-- A session that sends the calls of a list, how many of them were answered, and how many stand.
pub record Sending : Type 0 where
  pub sent : List Sent
  pub answered : ℕ
  pub stood : ℕ

-- the calls that stand
abbrev pub stands : Sending → List Sent
stands x = take x.stood x.sent

-- the reply to a call of the list, after the calls before it and no other
abbrev pub reply_at : State → List Call → ℕ → Option Reply
reply_at s calls n = option_map (reply s (take n calls)) (slice_get calls n)

-- the caller of a call of the list was known when it came
abbrev pub WasKnown : State → List Call → ℕ → Type 0
WasKnown s calls n = (c : Call) → slice_get calls n ≡ Some c
    → is_known (plain s (once s (take n calls))) c ≡ true

-- the first number that has not come, after these
abbrev pub next_after : ℕ → List Sent → ℕ
next_after next [] = next
next_after next (x ∷ xs) = next_after (if x.number == next then next + 1 else next) xs

-- the call of this number has this key
abbrev pub is_key_at : List Call → ℕ → List ℕ → Bool
is_key_at calls n key = has_key (option_map (λ (c : Call). c.key) (slice_get calls n)) key

-- Where the calls before this number came, it comes for the first time, or again with the same key before any other call.
abbrev pub comes_at_once : List Call → ℕ → Sent → Bool
comes_at_once calls next x = nat_le next (x.number + 1) && is_key_at calls x.number x.call.key

-- what it is told then: what the call of the list is told, and a copy that comes later, where it is heard
abbrev pub told_when : State → List Call → ℕ → Sent → Reply → Reply
told_when s calls next x told =
    if comes_at_once calls next x || is_heard (plain s (once s (take next calls))) x.call then told
    else unknown_caller

-- the replies to the calls that were sent, from where the calls before this number came
abbrev pub replies_of : State → List Call → ℕ → List Sent → List Reply
replies_of s calls next [] = []
replies_of s calls next (x ∷ xs) =
    cons_option (option_map (told_when s calls next x) (reply_at s calls x.number))
    (replies_of s calls (next_after next (x ∷ [])) xs)

-- the replies to the calls that were answered, session by session
abbrev pub replies_at : State → List Call → ℕ → List Sending → List (List Reply)
replies_at s calls next [] = []
replies_at s calls next (x ∷ xs) = replies_of s calls next (take x.answered x.sent)
    ∷ replies_at s calls (next_after next (stands x)) xs
