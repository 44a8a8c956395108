-- Sessions that send a list again lead where the list leads.
use Rattle.std.proofs.Common.{◌≡◌, ℕ, zero, suc, ◌+◌, ◌<◌, ◌≤◌, nat_le, Bool, true, false, true≢false, ◌&&◌, ◌||◌, eqb, if◌then◌else◌, List, [], ◌∷◌, ◌++◌, length, take, take-take, Option, Some, refl, sym, ap, ap₂, ◌∙◌, subst, inl, inr, arith, add-one, eq-eqb}
use Rattle.std.specs.Prelude.{slice_get}
use Rattle.std.specs.List.{cons_option}
use Rattle.std.specs.Option.{option_map}
use Rattle.std.proofs.lemmas.Slice.Eq.{bytes_eq-Decides}
use Rattle.std.proofs.lemmas.Bool.Decides.{nat_tests}
use Rattle.tb_board.specs.World.{has_key}
use Rattle.tb_calls.specs.declared.call.Call.{Call}
use Rattle.tb_calls.specs.declared.reply.Reply.{Reply}
use Rattle.tb_calls.specs.declared.call.KeptReply.{KeptReply}
use Rattle.tb_calls.specs.Call.{State, id_reused, is_heard, is_known, kept_for, once, plain, replies_after, replies_to, reply, told_in, unknown_caller}
use Rattle.tb_desk.specs.Sessions.{IsAgain, IsCopy, Sending, Sent, calls_of, comes_at_once, is_key_at, next_after, replies_at, replies_of, reply_at, stands, told_when}
use Rattle.tb_desk.specs.Resuming.{ComeInOrder, ComesAgain, Resume, SessionsJoin, SessionsResume, ToldIsKept, led_to, sessions_of, standing, told}
use Rattle.tb_desk.proofs.Runs.{after_all, after_all-append}
use Rattle.tb_desk.proofs.Repeats.{Holds, again, copy-holds, first_told, holds-all, told_kept, unheard_told}

pub joined : SessionsJoin
joined s [] = refl
joined s (x ∷ xs) = joined (after_all s (take x.stood x.calls)) xs ∙ sym (after_all-append s (take x.stood x.calls) (standing xs))

-- a list at one of its places
split_front : (calls : List Call) (n h : ℕ) (c : Call) → n < h → slice_get calls n ≡ Some c → (rest : List Call) × (take h calls ≡ take n calls ++ c ∷ rest)
split_front [] n h c less e = absurd (cc)
split_front (x ∷ xs) zero zero c less e = absurd (omega arith)
split_front (x ∷ xs) (suc n) zero c less e = absurd (omega arith)
split_front (x ∷ xs) zero (suc h) c less e = (take h xs, ap (λ y. y ∷ take h xs) (cc))
split_front (x ∷ xs) (suc n) (suc h) c less e =
    let rest = split_front xs n h c (omega arith) e in
    (rest.0, ap (λ ys. x ∷ ys) rest.1)

pub take_next : (calls : List Call) (n : ℕ) (c : Call) → slice_get calls n ≡ Some c → take (n + 1) calls ≡ take n calls ++ c ∷ []
take_next [] n c e = absurd (cc)
take_next (x ∷ xs) zero c e = ap (λ y. y ∷ []) (cc)
take_next (x ∷ xs) (suc n) c e = ap (λ m. take m (x ∷ xs)) (add-one (suc n)) ∙ ap (λ ys. x ∷ ys) (ap (λ m. take m xs) (sym (add-one n)) ∙ take_next xs n c e)

pub take_whole : (calls : List Call) → take (length calls) calls ≡ calls
take_whole [] = refl
take_whole (x ∷ xs) = ap (λ ys. x ∷ ys) (take_whole xs)

-- the state after the first calls of a list
abbrev after_first : State → List Call → ℕ → State
after_first s calls h = after_all s (take h calls)

after_next : (s : State) (calls : List Call) (n : ℕ) (c : Call) → slice_get calls n ≡ Some c → after_first s calls (n + 1) ≡ after_all (after_first s calls n) (c ∷ [])
after_next s calls n c e = ap (after_all s) (take_next calls n c e) ∙ after_all-append s (take n calls) (c ∷ [])

-- what was kept for a call is kept later
still_kept : (s : State) (calls : List Call) (n h : ℕ) (c : Call) → n < h → slice_get calls n ≡ Some c → is_known (after_first s calls n) c ≡ true
    → (v : KeptReply) × (Holds (after_first s calls h) c v × (told_in (after_first s calls n) c ≡ told_kept v c))
still_kept s calls n h c less at known =
    let f = first_told (after_first s calls n) c known in
    let rest = split_front calls n h c less at in
    let later : after_first s calls h ≡ after_all (after_all (after_first s calls n) (c ∷ [])) rest.0 =
    ap (after_all s) rest.1 ∙ after_all-append s (take n calls) (c ∷ rest.0) ∙ after_all-append (after_first s calls n) (c ∷ []) rest.0 in
    (f.kept, (subst (λ t. Holds t c f.kept) (sym later) (holds-all (after_all (after_first s calls n) (c ∷ [])) c rest.0 f.kept f.holds), f.told))

-- a reply, where the call is heard
abbrev if_heard : Bool → Reply → Reply
if_heard heard told = if heard then told else unknown_caller

-- a copy that comes later
copied : (s : State) (calls : List Call) (n h : ℕ) (c d : Call) → IsCopy c d → n < h → slice_get calls n ≡ Some c → is_known (after_first s calls n) c ≡ true
    → (told_in (after_first s calls h) d ≡ if_heard (is_heard (after_first s calls h) d) (reply s (take n calls) c)) × (after_all (after_first s calls h) (d ∷ []) ≡ after_first s calls h)
copied s calls n h c d same less at known =
    let k = still_kept s calls n h c less at known in
    let r = copy-holds _ c d k.0 same k.1.0 in
    (r.0 ∙ ap (if_heard (is_heard (after_first s calls h) d)) (sym k.1.1), r.1)

-- a call that comes again before any other call of the list
copied_at_once : (s : State) (calls : List Call) (n h : ℕ) (c d : Call) → IsAgain c d → n + 1 ≡ h → slice_get calls n ≡ Some c
    → (told_in (after_first s calls h) d ≡ reply s (take n calls) c) × (after_all (after_first s calls h) (d ∷ []) ≡ after_first s calls h)
copied_at_once s calls n h c d same next at =
    let r = again (after_first s calls n) c d same in
    let here : after_first s calls h ≡ after_all (after_first s calls n) (c ∷ []) = ap (after_first s calls) (sym next) ∙ after_next s calls n c at in
    (ap (λ t. told_in t d) here ∙ r.0, ap (λ t. after_all t (d ∷ [])) here ∙ r.1 ∙ sym here)

pub within : (calls : List Call) (n : ℕ) (c : Call) → slice_get calls n ≡ Some c → n < length calls
within [] n c e = absurd (cc)
within (x ∷ xs) zero c e = omega arith
within (x ∷ xs) (suc n) c e = let less : n < length xs = within xs n c e in omega arith

one_value : {A : Type 0} (o : Option A) (x y : A) → o ≡ Some x → o ≡ Some y → x ≡ y
one_value o x y p q = cc

pub told_is_kept : ToldIsKept
told_is_kept s calls n c kept at known is same =
    let k = still_kept s calls n (length calls) c (within calls n c at) at (known c at) in
    let last : kept_for (plain s (once s calls)) c ≡ Some k.0 = subst (λ cs. kept_for (after_all s cs) c ≡ Some k.0) (take_whole calls) k.1.0 in
    k.1.1 ∙ ap (λ v. told_kept v c) (one_value _ k.0 kept last is)
    ∙ ap (λ b. if b then kept.reply else id_reused) ((bytes_eq-Decides kept.content c.content).1 same)

-- ---- what a call is told when it comes

both_true : (a b : Bool) → (a && b) ≡ true → (a ≡ true) × (b ≡ true)
both_true true b e = (refl, e)
both_true false b e = absurd (true≢false (sym e))

up_to : (n m : ℕ) → nat_le n m ≡ true → n ≤ m
up_to n m e = grind (arith, nat_tests)

-- the key of the call of the list
pub its_key : (calls : List Call) (n : ℕ) (c : Call) (key : List ℕ) → slice_get calls n ≡ Some c → is_key_at calls n key ≡ true → key ≡ c.key
its_key calls n c key at is =
    sym ((bytes_eq-Decides c.key key).0 (ap (λ o. has_key (option_map (λ (d : Call). d.key) o) key) (sym at) ∙ is))

-- a call that isn't heard is told the same either way
either_way : (once heard : Bool) (told : Reply) → (heard ≡ false → told ≡ unknown_caller) → told ≡ (if once || heard then told else unknown_caller)
either_way true heard told unheard = refl
either_way false true told unheard = refl
either_way false false told unheard = unheard refl

first_call : (s : State) (calls : List Call) (next : ℕ) (x : Sent)
    → told_in (after_first s calls next) x.call ≡ told_when s calls next x (told_in (after_first s calls next) x.call)
first_call s calls next x =
    either_way (comes_at_once calls next x) (is_heard (after_first s calls next) x.call) (told_in (after_first s calls next) x.call) (unheard_told (after_first s calls next) x.call)

-- a copy is told what the call of the list was, at once or where it is heard, and changes nothing
past_call : (s : State) (calls : List Call) (next : ℕ) (x : Sent) → (a : ComesAgain s calls next x)
    → (told_in (after_first s calls next) x.call ≡ told_when s calls next x (reply s (take x.number calls) a.first)) × (after_all (after_first s calls next) (x.call ∷ []) ≡ after_first s calls next)
past_call s calls next x a = by (comes_at_once calls next x) refl
  where
    by : (b : Bool) → comes_at_once calls next x ≡ b
        → (told_in (after_first s calls next) x.call ≡ told_when s calls next x (reply s (take x.number calls) a.first)) × (after_all (after_first s calls next) (x.call ∷ []) ≡ after_first s calls next)
    by true is =
        let both = both_true (nat_le next (x.number + 1)) (is_key_at calls x.number x.call.key) is in
        let low : next ≤ x.number + 1 = up_to next (x.number + 1) both.0 in
        let near : x.number + 1 ≡ next = omega (arith, low, a.before) in
        let same : IsAgain a.first x.call = record { copy = a.copy; key = its_key calls x.number a.first x.call.key a.is_first both.1 } in
        let r = copied_at_once s calls x.number next a.first x.call same near a.is_first in
        (r.0 ∙ sym (ap (λ b. if_heard (b || is_heard (after_first s calls next) x.call) (reply s (take x.number calls) a.first)) is), r.1)
    by false is =
        let r = copied s calls x.number next a.first x.call a.copy a.before a.is_first (a.known is a.first a.is_first) in
        (r.0 ∙ sym (ap (λ b. if_heard (b || is_heard (after_first s calls next) x.call) (reply s (take x.number calls) a.first)) is), r.1)

-- replies that follow calls are replies in the state after these
replies_after-state : (s : State) (before cs : List Call) → replies_after s before cs ≡ replies_to (after_all s before) cs
replies_after-state s before [] = refl
replies_after-state s before (c ∷ cs) =
    ap (λ rs. reply s before c ∷ rs)
    (replies_after-state s (before ++ c ∷ []) cs
    ∙ ap (λ t. replies_to t cs) (after_all-append s before (c ∷ []))
    ∙ sym (replies_after-state (after_all s before) (c ∷ []) cs))

-- what is told of calls that come in order, and where they lead
abbrev Walked : State → List Call → ℕ → State → List Sent → Type 0
Walked s calls next t sent = (replies_to t (calls_of sent) ≡ replies_of s calls next sent) × (after_all t (calls_of sent) ≡ after_first s calls (next_after next sent))

walk_on : (s : State) (calls : List Call) (next later : ℕ) (t u : State) (x : Sent) (xs : List Sent) (r : Reply) → reply_at s calls x.number ≡ Some r
    → told_in t x.call ≡ told_when s calls next x r → after_all t (x.call ∷ []) ≡ u → next_after next (x ∷ []) ≡ later → Walked s calls later u xs → Walked s calls next t (x ∷ xs)
walk_on s calls next later t u x xs r there answer led goes rest = (
  ap (λ rs. told_in t x.call ∷ rs)
      (replies_after-state t (x.call ∷ []) (calls_of xs) ∙ ap (λ v. replies_to v (calls_of xs)) led ∙ rest.0 ∙ ap (λ n. replies_of s calls n xs) (sym goes))
      ∙ sym (ap (λ o. cons_option (option_map (told_when s calls next x) o) (replies_of s calls (next_after next (x ∷ [])) xs)) there
      ∙ ap (λ q. q ∷ replies_of s calls (next_after next (x ∷ [])) xs) (sym answer)),
  after_all-append t (x.call ∷ []) (calls_of xs) ∙ ap (λ v. after_all v (calls_of xs)) led ∙ rest.1 ∙ ap (λ n. after_first s calls (next_after n xs)) (sym goes),
)

there_at : (s : State) (calls : List Call) (n : ℕ) (c : Call) → slice_get calls n ≡ Some c → reply_at s calls n ≡ Some (reply s (take n calls) c)
there_at s calls n c at = ap (option_map (reply s (take n calls))) at

pub is_next : (x : Sent) (next : ℕ) (xs : List Sent) → x.number ≡ next → next_after next (x ∷ xs) ≡ next_after (next + 1) xs
is_next x next xs same = ap (λ b. next_after (if b then next + 1 else next) xs) (eq-eqb x.number next same)

pub apart : (n next : ℕ) → n < next → eqb n next ≡ false
apart n next less = grind (arith, nat_tests)

pub is_past : (x : Sent) (next : ℕ) (xs : List Sent) → x.number < next → next_after next (x ∷ xs) ≡ next_after next xs
is_past x next xs less = ap (λ b. next_after (if b then next + 1 else next) xs) (apart x.number next less)

walk : (s : State) (calls : List Call) (next : ℕ) (sent : List Sent) → ComeInOrder s calls next sent → Walked s calls next (after_first s calls next) sent
walk s calls next [] come = (refl, refl)
walk s calls next (x ∷ xs) (inl (same, at, come)) =
    walk_on s calls next (next + 1) (after_first s calls next) (after_first s calls (next + 1)) x xs (reply s (take next calls) x.call)
    (ap (reply_at s calls) same ∙ there_at s calls next x.call at)
    (first_call s calls next x)
    (sym (after_next s calls next x.call at))
    (is_next x next [] same)
    (walk s calls (next + 1) xs come)
walk s calls next (x ∷ xs) (inr (a, come)) =
    let past = past_call s calls next x a in
    walk_on s calls next next (after_first s calls next) (after_first s calls next) x xs (reply s (take x.number calls) a.first)
    (there_at s calls x.number a.first a.is_first)
    past.0
    past.1
    (is_past x next [] a.before)
    (walk s calls next xs come)

-- a front of calls that come in order comes in order
come_front : (s : State) (calls : List Call) (next : ℕ) (sent : List Sent) (k : ℕ) → ComeInOrder s calls next sent → ComeInOrder s calls next (take k sent)
come_front s calls next sent zero come = tt
come_front s calls next [] (suc k) come = tt
come_front s calls next (x ∷ xs) (suc k) (inl (same, at, come)) = inl (same, at, come_front s calls (next + 1) xs k come)
come_front s calls next (x ∷ xs) (suc k) (inr (a, come)) = inr (a, come_front s calls next xs k come)

-- the first calls that are sent
take-calls_of : (sent : List Sent) (k : ℕ) → take k (calls_of sent) ≡ calls_of (take k sent)
take-calls_of sent zero = refl
take-calls_of [] (suc k) = refl
take-calls_of (x ∷ xs) (suc k) = ap (λ cs. x.call ∷ cs) (take-calls_of xs k)

-- the first replies are the replies to the first calls
take-replies : (s : State) (before cs : List Call) (k : ℕ) → take k (replies_after s before cs) ≡ replies_after s before (take k cs)
take-replies s before cs zero = refl
take-replies s before [] (suc k) = refl
take-replies s before (c ∷ cs) (suc k) = ap (λ rs. reply s before c ∷ rs) (take-replies s (before ++ c ∷ []) cs k)

resumed_from : (s : State) (calls : List Call) (next : ℕ) (t : State) (xs : List Sending) → Resume s calls next xs → t ≡ after_first s calls next
    → (led_to t (sessions_of xs) ≡ plain s (once s calls)) × (told t (sessions_of xs) ≡ replies_at s calls next xs)
resumed_from s calls next t [] done is = (is ∙ ap (after_first s calls) done ∙ ap (after_all s) (take_whole calls), refl)
resumed_from s calls next t (x ∷ xs) (few, come, more) is =
    let answered = subst (ComeInOrder s calls next) (take-take x.answered x.stood x.sent few) (come_front s calls next (stands x) x.answered come) in
    let here = ap (after_all t) (take-calls_of x.sent x.stood) ∙ ap (λ u. after_all u (calls_of (stands x))) is ∙ (walk s calls next (stands x) come).1 in
    let rest = resumed_from s calls (next_after next (stands x)) (after_all t (take x.stood (calls_of x.sent))) xs more here in
    let first = take-replies t [] (calls_of x.sent) x.answered ∙ ap (replies_to t) (take-calls_of x.sent x.answered)
    ∙ ap (λ u. replies_to u (calls_of (take x.answered x.sent))) is ∙ (walk s calls next (take x.answered x.sent) answered).0 in
    (rest.0, ap₂ (λ r rs. r ∷ rs) first rest.1)

pub resumed : SessionsResume
resumed s calls xs resume = resumed_from s calls 0 s xs resume refl
