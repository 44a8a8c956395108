-- What calls lead to: plainly, once each, and their replies.
use Rattle.std.specs.Prelude.{ℕ, ◌==◌, Bool, false, not, ◌&&◌, ◌||◌, if◌then◌else◌, List, [], ◌∷◌, ◌++◌, Option, Some, None, Err, is_some}
use Rattle.std.specs.List.{list_any}
use Rattle.std.specs.Str.{bytes_eq}
use Rattle.std.specs.Ordering.{ordering_then, nat_cmp}
use Rattle.std.specs.Cmp.Lexicographic.{slice_cmp}
use Rattle.std.specs.declared.cmp.Ordering.{Ordering}
use Rattle.std.specs.FinMap.{FinMap, get, insert, empty}
use Rattle.tb_core.specs.declared.refusal.Refusal.TheVariants.{UnknownCaller, IdReused}
use Rattle.tb_board.specs.declared.world.World.{World}
use Rattle.tb_core.specs.Apply.{apply}
use Rattle.tb_core.specs.GoodLaws.{own_keys}
use Rattle.tb_core.specs.Outcomes.{Outcome}
use Rattle.tb_board.specs.World.{has_key, key_of, opening as opening_world}
use Rattle.tb_deeds.specs.Deeds.{deed_of}
use Rattle.tb_history.specs.History.{Histories, noted}
use Rattle.tb_calls.specs.declared.call.Call.{Call}
use Rattle.tb_calls.specs.declared.call.KeptReply.{KeptReply}
use Rattle.tb_calls.specs.declared.reply.Reply.{Reply}
use Rattle.tb_calls.specs.Reply.{reply_of}

-- A call's name: the person's, and the identifier that the person gave the call.
abbrev pub CallName : Type 0
CallName = List ℕ × ℕ

-- by person, then by identifier
abbrev pub name_cmp : CallName → CallName → Ordering
name_cmp a b = ordering_then (slice_cmp nat_cmp a.0 b.0) (nat_cmp a.1 b.1)

-- People, boards and roles, the replies that are kept under the names of calls, and each board's history.
pub record State : Type 0 where
  pub world : World
  pub kept : FinMap name_cmp KeptReply
  pub history : Histories

-- Rule: two people may use one identifier. Tried by one_identifier_two_people.
abbrev pub name_of : Call → CallName
name_of c = (c.member, c.id)

-- two calls of one person under one identifier
abbrev pub same_name : Call → Call → Bool
same_name c d = bytes_eq c.member d.member && (c.id == d.id)

-- what is kept under a call's name
abbrev pub kept_for : State → Call → Option KeptReply
kept_for s c = get s.kept (name_of c)

-- the call's person is there, with this key
-- Rule: a call comes with its person's key. Refused as UnknownCaller. Tried by wrong_key.
abbrev pub is_known : State → Call → Bool
is_known s c = has_key (key_of s.world c.member) c.key

-- these are the key of a call and the one that is there
abbrev pub changes_key : Option (List ℕ × List ℕ) → List ℕ → Option (List ℕ) → Bool
changes_key None key now = false
changes_key (Some keys) key now = bytes_eq keys.0 key && has_key now keys.1

abbrev pub is_kept_as : Option KeptReply → List ℕ → Bool
is_kept_as None content = false
is_kept_as (Some kept) content = bytes_eq kept.content content

-- a change of the caller's own key, from the call's to the one that is there, that was made by this very call
-- Rule: a change of the own key may come again with the old key. Tried by own_key.
abbrev pub has_changed_key : State → Call → Bool
has_changed_key s c =
    changes_key (own_keys c.command) c.key (key_of s.world c.member)
    && is_kept_as (kept_for s c) c.content

-- the call's caller is known, or was until this very call changed the key
-- Rule: no other call comes with an old key. Refused as UnknownCaller. Tried by own_key.
abbrev pub is_heard : State → Call → Bool
is_heard s c = is_known s c || has_changed_key s c

abbrev pub unknown_caller : Reply
unknown_caller = reply_of (Err UnknownCaller)

abbrev pub id_reused : Reply
id_reused = reply_of (Err IdReused)

-- what a call's command makes of the world, and its answer
unfoldable pub outcome : State → Call → Outcome
outcome s c = apply s.world c.member c.command c.moment

-- the histories after a call that did something, or nothing, on a board
abbrev pub noted_by : State → Call → Histories
noted_by s c = noted s.history c.member c.id c.moment (deed_of s.world c.member c.command c.moment)

-- a state after a call, its content and reply kept under its name, and its deed noted: no name is compared
-- Rule: a refusal is kept as any reply is. Tried by refusal_kept.
abbrev pub after_call : State → Call → State
after_call s c = record {
  world = (outcome s c).world;
  kept = insert s.kept (name_of c)
      (record { content = c.content; reply = reply_of (outcome s c).answer });
  history = noted_by s c;
}

-- a state after calls, each of which acts and is kept
abbrev pub plain : State → List Call → State
plain s [] = s
plain s (c ∷ cs) = plain (after_call s c) cs

-- a call counts where its caller is known and its name is new
abbrev pub counts : State → List Call → Call → Bool
counts s taken c =
    is_known (plain s taken) c
    && (not (is_some (kept_for s c)) && not (list_any (same_name c) taken))

-- the calls that count, after those already taken
abbrev pub once_after : State → List Call → List Call → List Call
once_after s taken [] = []
once_after s taken (c ∷ cs) = if counts s taken c then c ∷ once_after s (taken ++ c ∷ []) cs
    else once_after s taken cs

-- the calls that count: of each name the first whose caller is known
-- Rule: a call acts once, however often it is sent. Tried by retry_later.
abbrev pub once : State → List Call → List Call
once s cs = once_after s [] cs

-- the reply kept, where the content is the same
-- Rule: an identifier stays with its content. Refused as IdReused. Tried by identifier_used_again.
abbrev pub kept_or_new : Option KeptReply → State → Call → Reply
kept_or_new None s c = reply_of (outcome s c).answer
kept_or_new (Some kept) s c = if bytes_eq kept.content c.content then kept.reply else id_reused

-- what a call is told in a state
abbrev pub told_in : State → Call → Reply
told_in s c = if is_heard s c then kept_or_new (kept_for s c) s c else unknown_caller

-- what a call is told after the calls before it
abbrev pub reply : State → List Call → Call → Reply
reply s before c = told_in (plain s (once s before)) c

-- the replies to calls that follow others, in order
abbrev pub replies_after : State → List Call → List Call → List Reply
replies_after s before [] = []
replies_after s before (c ∷ cs) = reply s before c ∷ replies_after s (before ++ c ∷ []) cs

abbrev pub replies_to : State → List Call → List Reply
replies_to s cs = replies_after s [] cs

-- one person, who owns the one board, no kept reply and no entry
abbrev pub opening : List ℕ → List ℕ → State
opening name key = record { world = opening_world name key; kept = empty; history = empty }
