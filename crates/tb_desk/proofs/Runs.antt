-- Runs of calls, in parts.
use Rattle.std.proofs.Common.{◌≡◌, ℕ, ◌+◌, ◌<◌, Bool, true, false, not, ◌&&◌, ◌||◌, cond, if◌then◌else◌, List, [], ◌∷◌, ◌++◌, length, take, get_or, Option, Some, refl, sym, ap, ◌∙◌, append_assoc}
use Rattle.std.specs.Prelude.{is_some}
use Rattle.std.specs.List.{list_any}
use Rattle.tb_calls.specs.declared.call.Call.{Call}
use Rattle.tb_calls.specs.declared.reply.Reply.{Reply}
use Rattle.tb_calls.specs.Call.{State, after_call, counts, is_known, kept_for, same_name, plain, once_after, once, reply, replies_after, replies_to}
use Rattle.std.proofs.lemmas.List.{take_more}
use Rattle.tb_calls.proofs.Names.{kept_for-after_call, kept_of}

pub plain-append : (s : State) (xs ys : List Call) → plain s (xs ++ ys) ≡ plain (plain s xs) ys
plain-append s [] ys = refl
plain-append s (x ∷ xs) ys = plain-append (after_call s x) xs ys

is_some-cond : {A : Type 0} (b : Bool) (x : A) (o : Option A) → is_some (cond b (Some x) o) ≡ (b || is_some o)
is_some-cond true x o = refl
is_some-cond false x o = refl

swap : (a b c : Bool) → ((a || b) || c) ≡ (b || (a || c))
swap true true c = refl
swap true false c = refl
swap false true c = refl
swap false false c = refl

or_false : (a : Bool) → a ≡ (a || false)
or_false true = refl
or_false false = refl

-- what is kept after plain calls: what was kept, and what is named among the calls
pub is_kept-plain : (s : State) (taken : List Call) (c : Call) → is_some (kept_for (plain s taken) c) ≡ (is_some (kept_for s c) || list_any (same_name c) taken)
is_kept-plain s [] c = or_false _
is_kept-plain s (d ∷ ds) c =
    is_kept-plain (after_call s d) ds c
    ∙ ap (λ b. b || list_any (same_name c) ds) (ap is_some (kept_for-after_call s c d) ∙ is_some-cond (same_name c d) (kept_of s d) (kept_for s c))
    ∙ swap (same_name c d) (is_some (kept_for s c)) (list_any (same_name c) ds)

neither : (a b c : Bool) → (a && (not b && not c)) ≡ (a && (not (b || c) && true))
neither true true c = refl
neither true false true = refl
neither true false false = refl
neither false b c = refl

-- whether a call counts is seen from the state that the calls taken lead to
pub counts-plain : (s : State) (taken : List Call) (c : Call) → counts s taken c ≡ counts (plain s taken) [] c
counts-plain s taken c =
    neither (is_known (plain s taken) c) (is_some (kept_for s c)) (list_any (same_name c) taken)
    ∙ ap (λ b. is_known (plain s taken) c && (not b && true)) (sym (is_kept-plain s taken c))

pub once_after-plain : (s : State) (taken cs : List Call) → once_after s taken cs ≡ once (plain s taken) cs
once_after-plain s taken [] = refl
once_after-plain s taken (c ∷ cs) =
    let t = plain s taken in
    let more : once_after s (taken ++ c ∷ []) cs ≡ once_after t (c ∷ []) cs =
    once_after-plain s (taken ++ c ∷ []) cs ∙ ap (λ u. once u cs) (plain-append s taken (c ∷ [])) ∙ sym (once_after-plain t (c ∷ []) cs) in
    ap (λ b. if b then c ∷ once_after s (taken ++ c ∷ []) cs else once_after s taken cs) (counts-plain s taken c)
    ∙ ap (λ xs. if counts t [] c then c ∷ xs else once_after s taken cs) more
    ∙ ap (λ xs. if counts t [] c then c ∷ once_after t (c ∷ []) cs else xs) (once_after-plain s taken cs)

-- the state after calls, each once
abbrev pub after_all : State → List Call → State
after_all s cs = plain s (once s cs)

-- one more call, each once
after_one : (s : State) (c : Call) (cs : List Call) → after_all s (c ∷ cs) ≡ after_all (after_all s (c ∷ [])) cs
after_one s c cs = by (counts s [] c)
  where
    by : (b : Bool) → plain s (if b then c ∷ once_after s (c ∷ []) cs else once_after s [] cs) ≡ after_all (plain s (if b then c ∷ [] else [])) cs
    by true = ap (plain (after_call s c)) (once_after-plain s (c ∷ []) cs)
    by false = refl

-- calls in two parts
pub after_all-append : (s : State) (xs ys : List Call) → after_all s (xs ++ ys) ≡ after_all (after_all s xs) ys
after_all-append s [] ys = refl
after_all-append s (x ∷ xs) ys =
    after_one s x (xs ++ ys)
    ∙ after_all-append (after_all s (x ∷ [])) xs ys
    ∙ ap (λ t. after_all t ys) (sym (after_one s x xs))

nothing_more : (xs : List Call) → xs ++ [] ≡ xs
nothing_more [] = refl
nothing_more (x ∷ xs) = ap (λ ys. x ∷ ys) (nothing_more xs)

pub replies_after-append : (s : State) (before xs ys : List Call) → replies_after s before (xs ++ ys) ≡ replies_after s before xs ++ replies_after s (before ++ xs) ys
replies_after-append s before [] ys = ap (λ b. replies_after s b ys) (sym (nothing_more before))
replies_after-append s before (x ∷ xs) ys =
    ap (λ rs. reply s before x ∷ rs) (replies_after-append s (before ++ x ∷ []) xs ys ∙ ap (λ b. replies_after s (before ++ x ∷ []) xs ++ replies_after s b ys) (append_assoc before (x ∷ []) xs))

-- the reply to one call more
pub replies_to-push : (s : State) (xs : List Call) (c : Call) → replies_to s (xs ++ c ∷ []) ≡ replies_to s xs ++ reply s xs c ∷ []
replies_to-push s xs c = replies_after-append s [] xs (c ∷ [])

-- one call more, where those before it are a front of the list
pub told_more : (s t : State) (calls : List Call) (i : ℕ) (c : Call) (told new : List Reply) → i < length calls → c ≡ get_or calls i c → t ≡ after_all s (take i calls) → told ≡ replies_to s (take i calls) → new ≡ told ++ reply t [] c ∷ [] → new ≡ replies_to s (take (i + 1) calls)
told_more s t calls i c told new within is at so_far more =
    more
    ∙ ap (λ rs. rs ++ reply t [] c ∷ []) so_far
    ∙ ap (λ u. replies_to s (take i calls) ++ reply u [] c ∷ []) at
    ∙ sym (replies_to-push s (take i calls) c)
    ∙ ap (λ d. replies_to s (take i calls ++ d ∷ [])) is
    ∙ ap (replies_to s) (sym (take_more calls i c within))

pub after_all-more : (s t : State) (calls : List Call) (i : ℕ) (c : Call) → i < length calls → c ≡ get_or calls i c → t ≡ after_all s (take i calls) → after_all t (c ∷ []) ≡ after_all s (take (i + 1) calls)
after_all-more s t calls i c within is at =
    ap (λ u. after_all u (c ∷ [])) at
    ∙ sym (after_all-append s (take i calls) (c ∷ []))
    ∙ ap (λ d. after_all s (take i calls ++ d ∷ [])) is
    ∙ ap (after_all s) (sym (take_more calls i c within))
