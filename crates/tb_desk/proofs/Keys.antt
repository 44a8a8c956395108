-- Who is heard: a caller who is known, and one whose own call changed the key.
use Rattle.std.proofs.Common.{◌≡◌, ℕ, Bool, true, false, true≢false, ◌&&◌, ◌||◌, if◌then◌else◌, List, Option, Some, None, refl, sym, ap, ◌∙◌}
use Rattle.std.specs.Str.{bytes_eq}
use Rattle.std.proofs.lemmas.Slice.Eq.{bytes_eq-Decides}
use Rattle.tb_board.specs.World.{has_key, key_of}
use Rattle.tb_core.specs.GoodLaws.{key_after, own_keys}
use Rattle.tb_core.proofs.KnownKeys.{keeps_caller}
use Rattle.tb_calls.specs.declared.call.Call.{Call}
use Rattle.tb_calls.specs.declared.call.KeptReply.{KeptReply}
use Rattle.tb_calls.specs.Call.{State, after_call, changes_key, has_changed_key, is_heard, is_kept_as, is_known, kept_for, outcome}
use Rattle.tb_calls.proofs.Names.{kept_of}

pub same_bytes : (xs : List ℕ) → bytes_eq xs xs ≡ true
same_bytes xs = (bytes_eq-Decides xs xs).1 refl

-- is_heard, by what it looks at
abbrev heard_by : Option (List ℕ × List ℕ) → Option (List ℕ) → List ℕ → Option KeptReply → List ℕ → Bool
heard_by own now key kept content = has_key now key || (changes_key own key now && is_kept_as kept content)

-- a call is heard that changed its caller's key, or left it
heard_after : (own : Option (List ℕ × List ℕ)) (key : List ℕ) (v : KeptReply) → heard_by own (Some (key_after own key)) key (Some v) v.content ≡ true
heard_after None key v = ap (λ b. b || (false && is_kept_as (Some v) v.content)) (same_bytes key)
heard_after (Some keys) key v = by (bytes_eq keys.0 key) refl
  where
    all : (a b c : Bool) → b ≡ true → c ≡ true → (a || ((true && b) && c)) ≡ true
    all true b c p q = refl
    all false b c p q = ap (λ x. x && c) p ∙ q

    by : (b : Bool) → bytes_eq keys.0 key ≡ b → heard_by (Some keys) (Some (if b then keys.1 else key)) key (Some v) v.content ≡ true
    by true e =
        ap (λ b. bytes_eq keys.1 key || ((b && bytes_eq keys.1 keys.1) && bytes_eq v.content v.content)) e
        ∙ all (bytes_eq keys.1 key) (bytes_eq keys.1 keys.1) (bytes_eq v.content v.content) (same_bytes keys.1) (same_bytes v.content)
    by false e = ap (λ b. b || (changes_key (Some keys) key (Some key) && is_kept_as (Some v) v.content)) (same_bytes key)

-- a known caller has the key of the call
its_key : (o : Option (List ℕ)) (key : List ℕ) → has_key o key ≡ true → o ≡ Some key
its_key None key e = absurd (true≢false (sym e))
its_key (Some k) key e = ap Some ((bytes_eq-Decides k key).0 e)

key_next : (s : State) (c : Call) → is_known s c ≡ true → key_of (after_call s c).world c.member ≡ Some (key_after (own_keys c.command) c.key)
unfolding outcome
key_next s c known = keeps_caller s.world c.member c.key c.command c.moment (its_key (key_of s.world c.member) c.key known)

-- who is known is heard when the call was kept
pub heard_next : (s : State) (c : Call) → is_known s c ≡ true → kept_for (after_call s c) c ≡ Some (kept_of s c) → is_heard (after_call s c) c ≡ true
heard_next s c known kept =
    ap (λ o. heard_by (own_keys c.command) o c.key (kept_for (after_call s c) c) c.content) (key_next s c known)
    ∙ ap (λ o. heard_by (own_keys c.command) (Some (key_after (own_keys c.command) c.key)) c.key o c.content) kept
    ∙ heard_after (own_keys c.command) c.key (kept_of s c)

-- who is known is heard
pub known_heard : (s : State) (c : Call) → is_known s c ≡ true → is_heard s c ≡ true
known_heard s c known = ap (λ b. b || has_changed_key s c) known
