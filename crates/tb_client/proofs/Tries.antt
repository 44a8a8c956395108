-- Tries that follow one another.
use Rattle.std.proofs.Common.{◌≡◌, ◌∙◌, ℕ, ◌+◌, ◌≤◌, ◌<◌, false, true, List, [], ◌∷◌, ◌++◌, length, Ok, Err, inl, inr, refl, sym, ap, subst, arith}
use Rattle.std.specs.Prelude.{All}
use Rattle.std.proofs.lemmas.List.{length_push}
use Rattle.std.proofs.lemmas.List.Elements.{All-append, All-cons, All-nil}
use Rattle.tb_client.specs.declared.answer.Reply.{Reply}
use Rattle.tb_client.specs.declared.asking.AskFault.TheVariants.{NoAnswer, Memory}
use Rattle.tb_client.specs.Answer.{IsWholeAnswer, asks_again}
use Rattle.tb_client.proofs.Replies.{brings_none, brings_again}
use Rattle.tb_client.specs.Asking.{Event, asked, waited, late, IsTry, EndsBy, next_pause, turns_of, with_pauses}

-- one after the other
abbrev pub Joins : {V : Type 0} → (List Event → V → V → Type 0) → Type 0
Joins {V} follows = (first more : List Event) (a b c : V) → follows first a b → follows more b c → follows (first ++ more) a c

-- the pause behind the try that follows these
abbrev pub pause_after : ℕ → List Event → ℕ
pause_after pause [] = pause
pause_after pause (try ∷ more) = pause_after (next_pause pause) more

-- so many tries brought no answer, and this is the next pause
pub record Going {V : Type 0} (follows : List Event → V → V → Type 0) (message : List ℕ) (count pause : ℕ) (old new : V) : Type 0 where
  pub tries : List Event
  pub follow : follows (turns_of tries) old new
  pub failed : All (IsTry message) tries
  pub counted : length tries ≡ count
  pub most : count ≤ 1000000
  pub next : pause ≡ pause_after 100 tries
  pub short : pause ≤ 5000

turns_push : (pause : ℕ) (tries : List Event) (event : Event) → with_pauses pause (tries ++ event ∷ []) ≡ with_pauses pause tries ++ event ∷ waited (pause_after pause tries) ∷ []
turns_push pause [] event = refl
turns_push pause (try ∷ more) event = ap (λ turns. try ∷ waited pause ∷ turns) (turns_push (next_pause pause) more event)

pause_push : (pause : ℕ) (tries : List Event) (event : Event) → pause_after pause (tries ++ event ∷ []) ≡ next_pause (pause_after pause tries)
pause_push pause [] event = refl
pause_push pause (try ∷ more) event = pause_push (next_pause pause) more event

pub begins : {V : Type 0} (follows : List Event → V → V → Type 0) (message : List ℕ) (line : V) → follows [] line line → Going follows message 0 100 line line
begins follows message line start =
    record { tries = []; follow = start; failed = All-nil (IsTry message); counted = refl; most = omega arith; next = refl; short = omega arith }

-- one try without an answer
abbrev pub Tried : {V : Type 0} → (List Event → V → V → Type 0) → List ℕ → V → V → Type 0
Tried follows message old new = (event : Event) × IsTry message event × follows (event ∷ []) old new

pub tried_none : {V : Type 0} (follows : List Event → V → V → Type 0) (message came : List ℕ) (a b : V) → ((reply : Reply) → IsWholeAnswer came reply → ⊥)
    → follows (asked message came ∷ []) a b → Tried follows message a b
tried_none follows message came a b none follow = (asked message came, (refl, brings_none came none), follow)

pub tried_again : {V : Type 0} (follows : List Event → V → V → Type 0) (message came : List ℕ) (a b : V) (r : Reply) → IsWholeAnswer came r → asks_again r.status ≡ true
    → follows (asked message came ∷ []) a b → Tried follows message a b
tried_again follows message came a b r is again follow = (asked message came, (refl, brings_again came r is again), follow)

-- one try without an answer, and its pause
pub turned : {V : Type 0} (follows : List Event → V → V → Type 0) → Joins follows → (message : List ℕ) (count pause : ℕ) (a b c d : V)
    → Going follows message count pause a b → count < 1000000 → Tried follows message b c → follows (waited pause ∷ []) c d → next_pause pause ≤ 5000
    → Going follows message (count + 1) (next_pause pause) a d
turned follows joins message count pause a b c d g few t follow short =
    let event = t.0 in
    let before = g.counted in
    let pushed = length_push g.tries event in
    let turns : turns_of (g.tries ++ event ∷ []) ≡ turns_of g.tries ++ event ∷ waited pause ∷ [] =
    turns_push 100 g.tries event ∙ ap (λ next. turns_of g.tries ++ event ∷ waited next ∷ []) (sym g.next) in
    let both = joins (event ∷ []) (waited pause ∷ []) b c d t.2 follow in record {
      tries = g.tries ++ event ∷ [];
      follow = subst (λ events. follows events a d) (sym turns) (joins (turns_of g.tries) (event ∷ waited pause ∷ []) a b d g.follow both);
      failed = All-append (IsTry message) g.tries (event ∷ []) g.failed (All-cons (IsTry message) event [] t.1 (All-nil (IsTry message)));
      counted = omega (arith, before, pushed);
      most = omega (arith, few);
      next = ap next_pause g.next ∙ sym (pause_push 100 g.tries event);
      short = short;
    }

pub answered : {V : Type 0} (follows : List Event → V → V → Type 0) → Joins follows → (message : List ℕ) (count pause : ℕ) (a b c : V) (reply : Reply)
    → Going follows message count pause a b → count < 1000000 → (came : List ℕ) → IsWholeAnswer came reply → asks_again reply.status ≡ false
    → follows (asked message came ∷ []) b c → (happened : List Event) × follows happened a c × EndsBy message happened (Ok reply)
answered follows joins message count pause a b c reply g few came is final follow = (
  turns_of g.tries ++ asked message came ∷ [],
  joins (turns_of g.tries) (asked message came ∷ []) a b c g.follow follow,
  record { tries = g.tries; failed = g.failed; few = rw g.counted few; came = came; last = refl; is = is; final = final },
)

pub unread : {V : Type 0} (follows : List Event → V → V → Type 0) → Joins follows → (message : List ℕ) (count pause : ℕ) (a b c : V)
    → Going follows message count pause a b → count < 1000000 → (came : List ℕ) → follows (asked message came ∷ []) b c
    → (happened : List Event) × follows happened a c × EndsBy message happened (Err Memory)
unread follows joins message count pause a b c g few came follow = (
  turns_of g.tries ++ asked message came ∷ [],
  joins (turns_of g.tries) (asked message came ∷ []) a b c g.follow follow,
  record { tries = g.tries; failed = g.failed; few = rw g.counted few; came = came; last = refl },
)

pub given_up : {V : Type 0} (follows : List Event → V → V → Type 0) → Joins follows → (message : List ℕ) (count pause : ℕ) (a b c d : V)
    → Going follows message count pause a b → count < 1000000 → Tried follows message b c → follows (late ∷ []) c d
    → (happened : List Event) × follows happened a d × EndsBy message happened (Err NoAnswer)
given_up follows joins message count pause a b c d g few t follow = (
  turns_of g.tries ++ t.0 ∷ late ∷ [],
  joins (turns_of g.tries) (t.0 ∷ late ∷ []) a b d g.follow (joins (t.0 ∷ []) (late ∷ []) b c d t.2 follow),
  inl (record { tries = g.tries; failed = g.failed; few = rw g.counted few; tried = t.0; fails = t.1; last = refl }),
)

pub tired : {V : Type 0} (follows : List Event → V → V → Type 0) (message : List ℕ) (count pause : ℕ) (a b : V) → Going follows message count pause a b → 1000000 ≤ count
    → (happened : List Event) × follows happened a b × EndsBy message happened (Err NoAnswer)
tired follows message count pause a b g most =
    let counted = g.counted in
    let fits = g.most in
    (turns_of g.tries, g.follow, inr (record { tries = g.tries; failed = g.failed; all = omega (arith, counted, fits, most); whole = refl }))
