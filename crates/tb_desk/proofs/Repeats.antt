-- A call that came once, with its caller known, changes nothing when a copy of it comes, which is told the same where it is heard.
use Rattle.std.proofs.Common.{◌≡◌, ℕ, Bool, true, false, true≢false, not, ◌&&◌, ◌||◌, cond, if◌then◌else◌, List, [], ◌∷◌, Option, Some, None, refl, sym, ap, ◌∙◌, subst}
use Rattle.std.specs.Prelude.{is_some}
use Rattle.std.specs.FinMap.{get}
use Rattle.std.specs.Str.{bytes_eq}
use Rattle.tb_core.specs.GoodWorld.{IsGoodWorld}
use Rattle.tb_board.specs.World.{has_key, key_of}
use Rattle.tb_core.specs.GoodLaws.{own_keys}
use Rattle.tb_core.proofs.Stays.{stays_good}
use Rattle.tb_calls.specs.declared.call.Call.{Call}
use Rattle.tb_calls.specs.declared.reply.Reply.{Reply}
use Rattle.tb_calls.specs.declared.call.KeptReply.{KeptReply}
use Rattle.tb_calls.specs.Call.{State, after_call, changes_key, counts, has_changed_key, id_reused, is_heard, is_kept_as, is_known, kept_for, kept_or_new, outcome, plain, same_name, told_in, unknown_caller}
use Rattle.tb_calls.specs.Keep.{IsNew}
use Rattle.tb_calls.proofs.Names.{kept_for-after_call, kept_for-same_name, kept_of, same_name_self}
use Rattle.tb_desk.specs.Sessions.{IsAgain, IsCopy}
use Rattle.tb_desk.proofs.Keys.{heard_next, known_heard, same_bytes}
use Rattle.tb_desk.proofs.Runs.{after_all, after_all-append}

-- this is kept for the call
abbrev pub Holds : State → Call → KeptReply → Type 0
Holds s c v = kept_for s c ≡ Some v

-- what a call that is heard is told from what is kept for it
abbrev pub told_kept : KeptReply → Call → Reply
told_kept v c = if bytes_eq v.content c.content then v.reply else id_reused

-- what a call is told for which something is kept
abbrev told_if : Bool → KeptReply → Call → Reply
told_if heard v c = if heard then told_kept v c else unknown_caller

told-holds : (s : State) (c : Call) (v : KeptReply) → Holds s c v → told_in s c ≡ told_if (is_heard s c) v c
told-holds s c v kept = ap (λ o. if is_heard s c then kept_or_new o s c else unknown_caller) kept

heard_told : (s : State) (c : Call) (v : KeptReply) → Holds s c v → is_heard s c ≡ true → told_in s c ≡ told_kept v c
heard_told s c v kept heard = told-holds s c v kept ∙ ap (λ b. told_if b v c) heard

-- one call, by whether it counts
pub one_call : (P : State → Type 0) (s : State) (d : Call) → (counts s [] d ≡ true → P (after_call s d)) → (counts s [] d ≡ false → P s) → P (after_all s (d ∷ []))
one_call P s d acts acts_not = by (counts s [] d) refl
  where
    by : (b : Bool) → counts s [] d ≡ b → P (plain s (if b then d ∷ [] else []))
    by true e = acts e
    by false e = acts_not e

counted_new : (a b : Bool) → (a && (not b && true)) ≡ true → b ≡ false
counted_new true true e = absurd (true≢false (sym e))
counted_new true false e = refl
counted_new false b e = absurd (true≢false (sym e))

-- what is kept stays where a new call is kept
kept_stays : (s : State) (c d : Call) (v : KeptReply) → kept_for s c ≡ Some v → is_some (kept_for s d) ≡ false → kept_for (after_call s d) c ≡ Some v
kept_stays s c d v kept new = kept_for-after_call s c d ∙ by (same_name c d) refl
  where
    by : (b : Bool) → same_name c d ≡ b → cond b (Some (kept_of s d)) (kept_for s c) ≡ Some v
    by true e = absurd (true≢false (ap is_some (sym kept ∙ kept_for-same_name s c d e) ∙ new))
    by false e = kept

pub holds-one : (s : State) (c d : Call) (v : KeptReply) → Holds s c v → Holds (after_all s (d ∷ [])) c v
holds-one s c d v h = one_call (λ t. Holds t c v) s d (λ e. kept_stays s c d v h (counted_new (is_known s d) (is_some (kept_for s d)) e)) (λ _. h)

pub holds-all : (s : State) (c : Call) (ds : List Call) (v : KeptReply) → Holds s c v → Holds (after_all s ds) c v
holds-all s c [] v h = h
holds-all s c (d ∷ ds) v h = subst (λ t. Holds t c v) (sym (after_all-append s (d ∷ []) ds)) (holds-all (after_all s (d ∷ [])) c ds v (holds-one s c d v h))

counts_new : (a b : Bool) → a ≡ true → b ≡ false → (a && (not b && true)) ≡ true
counts_new true b p q = ap (λ x. not x && true) q
counts_new false b p q = absurd (true≢false (sym p))

counts_not : (a b : Bool) → b ≡ true → (a && (not b && true)) ≡ false
counts_not true true e = refl
counts_not true false e = absurd (true≢false (sym e))
counts_not false b e = refl

-- a new call acts
pub new_acts : (s : State) (c : Call) → IsNew s c → after_call s c ≡ after_all s (c ∷ [])
new_acts s c new = sym (ap (λ b. plain s (if b then c ∷ [] else [])) (counts_new (is_known s c) (is_some (kept_for s c)) new.known (ap is_some new.new)))

-- a call for which something is kept changes nothing
pub same-holds : (s : State) (c : Call) (v : KeptReply) → Holds s c v → after_all s (c ∷ []) ≡ s
same-holds s c v h = ap (λ b. plain s (if b then c ∷ [] else [])) (counts_not (is_known s c) (is_some (kept_for s c)) (ap is_some h))

-- a call whose caller is known: something is kept for it then, it was told what that says, and would be heard again
pub record Answered (s : State) (c : Call) : Type 0 where
  pub kept : KeptReply
  pub holds : Holds (after_all s (c ∷ [])) c kept
  pub told : told_in s c ≡ told_kept kept c
  pub heard : is_heard (after_all s (c ∷ [])) c ≡ true

pub first_told : (s : State) (c : Call) → is_known s c ≡ true → Answered s c
first_told s c known = by (kept_for s c) refl
  where
    by : (o : Option KeptReply) → kept_for s c ≡ o → Answered s c
    by (Some v) e = record {
      kept = v;
      holds = holds-one s c c v e;
      told = heard_told s c v e (known_heard s c known);
      heard = subst (λ t. is_heard t c ≡ true) (sym (same-holds s c v e)) (known_heard s c known);
    }
    by None e =
        let counted : counts s [] c ≡ true = counts_new (is_known s c) (is_some (kept_for s c)) known (ap is_some e) in
        let acts : after_all s (c ∷ []) ≡ after_call s c = ap (λ b. plain s (if b then c ∷ [] else [])) counted in
        let v = kept_of s c in
        let kept : kept_for (after_call s c) c ≡ Some v = kept_for-after_call s c c ∙ ap (λ b. cond b (Some v) (kept_for s c)) (same_name_self c) in
        let told = ap (λ b. if b then kept_or_new (kept_for s c) s c else unknown_caller) (known_heard s c known) ∙ ap (λ o. kept_or_new o s c) e in
        record {
          kept = v;
          holds = subst (λ t. Holds t c v) (sym acts) kept;
          told = told ∙ sym (ap (λ b. if b then v.reply else id_reused) (same_bytes c.content));
          heard = subst (λ t. is_heard t c ≡ true) (sym acts) (heard_next s c known kept);
        }

-- ---- a copy

copy_kept : (s : State) (c d : Call) → IsCopy c d → kept_for s d ≡ kept_for s c
copy_kept s c d a = ap (λ m. get s.kept (m, d.id)) a.member ∙ ap (λ i. get s.kept (c.member, i)) a.id

copy_told : (v : KeptReply) (c d : Call) → IsCopy c d → told_kept v d ≡ told_kept v c
copy_told v c d a = ap (λ b. if bytes_eq v.content b then v.reply else id_reused) a.content

-- where something is kept for a call, a copy is told what that says, if it is heard, and changes nothing
pub copy-holds : (s : State) (c d : Call) (v : KeptReply) → IsCopy c d → Holds s c v
    → (told_in s d ≡ told_if (is_heard s d) v c) × (after_all s (d ∷ []) ≡ s)
copy-holds s c d v a h =
    let held : Holds s d v = copy_kept s c d a ∙ h in
    (told-holds s d v held ∙ ap (λ r. if is_heard s d then r else unknown_caller) (copy_told v c d a), same-holds s d v held)

-- ---- a call that comes again, with the same key

again_known : (s : State) (c d : Call) → IsAgain c d → is_known s d ≡ is_known s c
again_known s c d a = ap (λ m. has_key (key_of s.world m) d.key) a.copy.member ∙ ap (λ k. has_key (key_of s.world c.member) k) a.key

again_changed : (s : State) (c d : Call) → IsAgain c d → has_changed_key s d ≡ has_changed_key s c
again_changed s c d a =
    ap (λ o. changes_key o d.key (key_of s.world d.member) && is_kept_as (kept_for s d) d.content) a.copy.own
    ∙ ap (λ k. changes_key (own_keys c.command) k (key_of s.world d.member) && is_kept_as (kept_for s d) d.content) a.key
    ∙ ap (λ m. changes_key (own_keys c.command) c.key (key_of s.world m) && is_kept_as (kept_for s d) d.content) a.copy.member
    ∙ ap (λ o. changes_key (own_keys c.command) c.key (key_of s.world c.member) && is_kept_as o d.content) (copy_kept s c d a.copy)
    ∙ ap (λ b. changes_key (own_keys c.command) c.key (key_of s.world c.member) && is_kept_as (kept_for s c) b) a.copy.content

again_heard : (s : State) (c d : Call) → IsAgain c d → is_heard s d ≡ is_heard s c
again_heard s c d a = ap (λ b. b || has_changed_key s d) (again_known s c d a) ∙ ap (λ b. is_known s c || b) (again_changed s c d a)

-- a call whose caller isn't known
unknown_same : (s : State) (c : Call) → is_known s c ≡ false → after_all s (c ∷ []) ≡ s
unknown_same s c e = ap (λ b. plain s (if b && (not (is_some (kept_for s c)) && true) then c ∷ [] else [])) e

pub unheard_told : (s : State) (c : Call) → is_heard s c ≡ false → told_in s c ≡ unknown_caller
unheard_told s c e = ap (λ b. if b then kept_or_new (kept_for s c) s c else unknown_caller) e

-- something is kept where a caller is heard who isn't known
kept_there : (o : Option KeptReply) (content : List ℕ) → is_kept_as o content ≡ true → (v : KeptReply) × (o ≡ Some v)
kept_there None content e = absurd (true≢false (sym e))
kept_there (Some v) content e = (v, refl)

second_true : (a b : Bool) → (a && b) ≡ true → b ≡ true
second_true true b e = e
second_true false b e = absurd (true≢false (sym e))

abbrev IsSame : State → Call → Call → Type 0
IsSame s c d = (told_in (after_all s (c ∷ [])) d ≡ told_in s c) × (after_all (after_all s (c ∷ [])) (d ∷ []) ≡ after_all s (c ∷ []))

-- a call that comes again at once is told the same, and changes nothing
pub again : (s : State) (c d : Call) → IsAgain c d
    → (told_in (after_all s (c ∷ [])) d ≡ told_in s c) × (after_all (after_all s (c ∷ [])) (d ∷ []) ≡ after_all s (c ∷ []))
again s c d a = by (is_known s c) refl
  where
    -- nothing came of it
    idle : after_all s (c ∷ []) ≡ s → told_in s d ≡ told_in s c → after_all s (d ∷ []) ≡ s → IsSame s c d
    idle same told unmoved = (ap (λ t. told_in t d) same ∙ told, ap (λ t. after_all t (d ∷ [])) same ∙ unmoved ∙ sym same)

    changed : is_known s c ≡ false → (b : Bool) → has_changed_key s c ≡ b → IsSame s c d
    changed e true is =
        let v = kept_there (kept_for s c) c.content (second_true (changes_key (own_keys c.command) c.key (key_of s.world c.member)) (is_kept_as (kept_for s c) c.content) is) in
        let heard : is_heard s c ≡ true = ap (λ b. b || has_changed_key s c) e ∙ is in
        let r = copy-holds s c d v.0 a.copy v.1 in
        idle (unknown_same s c e) (r.0 ∙ ap (λ b. told_if b v.0 c) (again_heard s c d a ∙ heard) ∙ sym (heard_told s c v.0 v.1 heard)) r.1
    changed e false is =
        let unheard : is_heard s c ≡ false = ap (λ b. b || has_changed_key s c) e ∙ is in
        idle (unknown_same s c e) (unheard_told s d (again_heard s c d a ∙ unheard) ∙ sym (unheard_told s c unheard)) (unknown_same s d (again_known s c d a ∙ e))

    by : (b : Bool) → is_known s c ≡ b → IsSame s c d
    by true e =
        let f = first_told s c e in
        let r = copy-holds (after_all s (c ∷ [])) c d f.kept a.copy f.holds in
        (r.0 ∙ ap (λ b. told_if b f.kept c) (again_heard (after_all s (c ∷ [])) c d a ∙ f.heard) ∙ sym f.told, r.1)
    by false e = changed e (has_changed_key s c) refl

-- a good world stays good after a call
pub good_next : (s : State) (c : Call) → IsGoodWorld s.world → IsGoodWorld (after_call s c).world
unfolding outcome
good_next s c good = stays_good s.world c.member c.command c.moment good

-- a good world stays good
pub good_all : (s : State) (calls : List Call) → IsGoodWorld s.world → IsGoodWorld (after_all s calls).world
good_all s [] good = good
good_all s (c ∷ cs) good =
    subst (λ t. IsGoodWorld t.world) (sym (after_all-append s (c ∷ []) cs))
    (good_all (after_all s (c ∷ [])) cs (one_call (λ t. IsGoodWorld t.world) s c (λ _. good_next s c good) (λ _. good)))
