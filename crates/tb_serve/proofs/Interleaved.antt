-- Whatever turns connections take, each is told what its own messages are told, and the state is the one that all messages lead to.
use Rattle.std.proofs.Common.{◌≡◌, ℕ, ◌+◌, Bool, true, false, true≢false, if◌then◌else◌, List, [], ◌∷◌, ◌++◌, refl, sym, ap, ◌∙◌, subst, append_assoc, append-nil, inl, inr}
use Rattle.std.specs.Prelude.{◌==◌}
use Rattle.tb_serve.specs.Turns.{Event, opened, came, gone, took, failed, refused, rested, went, Happening, opens, comes, turns, goes, done_in, Fits, Moves, MovesIf, Run, Serving, Step, Talk, after_event, sent_of, silent, Brings, EachServed, EndsOpening, IsLeft, IsSame, IsServed, IsSteady, NoneBehind, NoneGone, begins_as, brought_by, brought_to, came_by, came_on, loses_bytes, handled, led_to, opens_one, taken_on, told_on, went_on}

-- the state is the one that the messages lead to, in the order in which they were handled
state_step : {S A M : Type 0} (v : Serving S A M) (s : S) (c : ℕ) (h : Happening A) (e : Event M) (ks : List (Step A M)) (end : S)
    → end ≡ led_to v (after_event v s e) (handled ks) → end ≡ led_to v s (handled (record { place = c; happening = h; event = e } ∷ ks))
state_step v s c h opened ks end is = is
state_step v s c h (came piece) ks end is = is
state_step v s c h gone ks end is = is
state_step v s c h (took m is_whole) ks end is = is
state_step v s c h (failed m text is_whole) ks end is = is
state_step v s c h (refused text is_whole) ks end is = is
state_step v s c h rested ks end is = is
state_step v s c h (went front) ks end is = is

pub state_is : {S A M : Type 0} (v : Serving S A M) (s : S) (talks : ℕ → Talk) (ks : List (Step A M)) (end : S) (later : ℕ → Talk)
    → Run v s talks ks end later → end ≡ led_to v s (handled ks)
state_is v s talks [] end later run = run.0
state_is v s talks (k ∷ ks) end later run =
    state_step v s k.place k.happening k.event ks end (state_is v (after_event v s k.event) run.1 ks end later run.3)

-- behind the end there is nothing
none_behind : {S A M : Type 0} (v : Serving S A M) (is_closing : Bool) (before : ℕ) (ms : List M) → NoneBehind v true before ms → NoneBehind v is_closing before ms
none_behind v is_closing before [] none = tt
none_behind v is_closing before (m ∷ ms) none = absurd (true≢false none.0)

none_behind_whole : {S A M : Type 0} (v : Serving S A M) (is_whole closes : Bool) (before : ℕ) (ms : List M)
    → NoneBehind v (if is_whole then closes else true) before ms → NoneBehind v closes before ms
none_behind_whole v true closes before ms none = none
none_behind_whole v false closes before ms none = none_behind v closes before ms none

record IsTold {S A M : Type 0} (v : Serving S A M) (c : ℕ) (s : S) (old : Talk) (ks : List (Step A M)) (new : Talk) : Type 0 where
  brings : Brings v (old.bytes ++ came_on c ks) (taken_on c ks) new.bytes
  last : NoneBehind v old.is_closing old.messages (taken_on c ks)
  told : old.out ++ told_on v c s old.messages ks ≡ went_on c ks ++ new.out

-- bytes that came are those that were brought
came_one : {S A M : Type 0} (v : Serving S A M) (old : Talk) (h : Happening A) (e : Event M) → Fits v old h e → loses_bytes e ≡ false → came_by e ≡ brought_by h
came_one v old opens e fits kept = ap came_by fits
came_one v old (comes piece) e (inl is) kept = ap came_by is
came_one v old (comes piece) e (inr is) kept = absurd (true≢false (sym (ap loses_bytes is) ∙ kept))
came_one v old (turns a) opened fits kept = refl
came_one v old (turns a) (came piece) fits kept = absurd fits
came_one v old (turns a) gone fits kept = refl
came_one v old (turns a) (took m is_whole) fits kept = refl
came_one v old (turns a) (failed m text is_whole) fits kept = refl
came_one v old (turns a) (refused text is_whole) fits kept = refl
came_one v old (turns a) rested fits kept = refl
came_one v old (turns a) (went front) fits kept = refl
came_one v old (goes count) e fits kept = ap came_by fits

came_here : {A M : Type 0} (is : Bool) (h : Happening A) (e : Event M) → (loses_bytes e ≡ false → came_by e ≡ brought_by h)
    → (if is then loses_bytes e else false) ≡ false → (if is then came_by e else []) ≡ (if is then brought_by h else [])
came_here true h e same kept = same kept
came_here false h e same kept = refl

both : (a b c d : List ℕ) → a ≡ b → c ≡ d → a ++ c ≡ b ++ d
both a b c d ab cd = rw (ab, cd) refl

came_all : {S A M : Type 0} (v : Serving S A M) (c : ℕ) (s : S) (talks : ℕ → Talk) (ks : List (Step A M)) (end : S) (later : ℕ → Talk)
    → Run v s talks ks end later → NoneGone c ks → came_on c ks ≡ brought_to c (done_in ks)
came_all v c s talks [] end later run kept = refl
came_all v c s talks (k ∷ ks) end later run kept =
    both _ _ _ _ (came_here (k.place == c) k.happening k.event (came_one v (talks k.place) k.happening k.event run.0) kept.0)
    (came_all v c (after_event v s k.event) run.1 ks end later run.3 kept.1)

-- one event, at its own connection
own : {S A M : Type 0} (v : Serving S A M) (steady : IsSteady v) (c : ℕ) (s : S) (h : Happening A) (d : ℕ) (e : Event M) (ks : List (Step A M)) (old mid new : Talk)
    → (d == c) ≡ true → opens_one e ≡ false → Moves v s e old mid → IsTold v c (after_event v s e) mid ks new
    → IsTold v c s old (record { place = d; happening = h; event = e } ∷ ks) new
own v steady c s h d opened ks old mid new at stays is more = absurd (true≢false stays)
own v steady c s h d (came piece) ks old mid new at stays is more =
    let brought : Brings v ((old.bytes ++ piece) ++ came_on c ks) (taken_on c ks) new.bytes = rw is at more.brings in
    let last : NoneBehind v old.is_closing old.messages (taken_on c ks) = rw is at more.last in
    let told : old.out ++ told_on v c s old.messages ks ≡ went_on c ks ++ new.out = rw is at more.told in
    record {
      brings = rw (at, sym (append_assoc old.bytes piece (came_on c ks))) brought;
      last = rw at last;
      told = rw at told;
    }
own v steady c s h d gone ks old mid new at stays is more =
    let brought : Brings v (old.bytes ++ came_on c ks) (taken_on c ks) new.bytes = rw is at more.brings in
    let last : NoneBehind v true old.messages (taken_on c ks) = rw is at more.last in
    let told : old.out ++ told_on v c s old.messages ks ≡ went_on c ks ++ new.out = rw is at more.told in
    record {
      brings = rw at brought;
      last = rw at (none_behind v old.is_closing old.messages (taken_on c ks) last);
      told = rw at told;
    }
own v steady c s h d (took m is_whole) ks old mid new at stays is more =
    let text = sent_of is_whole (v.text s old.messages m) in
    let brought : Brings v (is.0 ++ came_on c ks) (taken_on c ks) new.bytes = rw is.3 at more.brings in
    let last : NoneBehind v (if is_whole then v.closes old.messages m else true) (old.messages + 1) (taken_on c ks) = rw is.3 at more.last in
    let told : (old.out ++ text) ++ told_on v c (v.after s m) (old.messages + 1) ks ≡ went_on c ks ++ new.out = rw is.3 at more.told in
    record {
      brings = rw at (is.0 ++ came_on c ks, steady old.bytes m is.0 (came_on c ks) is.1, brought);
      last = rw at (is.2, none_behind_whole v is_whole (v.closes old.messages m) (old.messages + 1) (taken_on c ks) last);
      told = rw at (sym (append_assoc old.out text (told_on v c (v.after s m) (old.messages + 1) ks)) ∙ told);
    }
own v steady c s h d (failed m wanted is_whole) ks old mid new at stays is more =
    let text = sent_of is_whole wanted in
    let brought : Brings v (is.0 ++ came_on c ks) (taken_on c ks) new.bytes = rw is.4 at more.brings in
    let last : NoneBehind v true (old.messages + 1) (taken_on c ks) = rw is.4 at more.last in
    let told : (old.out ++ text) ++ told_on v c s (old.messages + 1) ks ≡ went_on c ks ++ new.out = rw is.4 at more.told in
    record {
      brings = rw at (is.0 ++ came_on c ks, steady old.bytes m is.0 (came_on c ks) is.1, brought);
      last = rw at (is.2, none_behind v (v.closes old.messages m) (old.messages + 1) (taken_on c ks) last);
      told = rw at (sym (append_assoc old.out text (told_on v c s (old.messages + 1) ks)) ∙ told);
    }
own v steady c s h d (refused wanted is_whole) ks old mid new at stays is more =
    let text = sent_of is_whole wanted in
    let brought : Brings v (old.bytes ++ came_on c ks) (taken_on c ks) new.bytes = rw is.2 at more.brings in
    let last : NoneBehind v true old.messages (taken_on c ks) = rw is.2 at more.last in
    let told : (old.out ++ text) ++ told_on v c s old.messages ks ≡ went_on c ks ++ new.out = rw is.2 at more.told in
    record {
      brings = rw at brought;
      last = rw at (none_behind v old.is_closing old.messages (taken_on c ks) last);
      told = rw at (sym (append_assoc old.out text (told_on v c s old.messages ks)) ∙ told);
    }
own v steady c s h d rested ks old mid new at stays is more =
    let brought : Brings v (old.bytes ++ came_on c ks) (taken_on c ks) new.bytes = rw is.1 at more.brings in
    let last : NoneBehind v old.is_closing old.messages (taken_on c ks) = rw is.1 at more.last in
    let told : old.out ++ told_on v c s old.messages ks ≡ went_on c ks ++ new.out = rw is.1 at more.told in
    record {
      brings = rw at brought;
      last = rw at last;
      told = rw at told;
    }
own v steady c s h d (went front) ks old mid new at stays is more =
    let brought : Brings v (old.bytes ++ came_on c ks) (taken_on c ks) new.bytes = rw is.2 at more.brings in
    let last : NoneBehind v old.is_closing old.messages (taken_on c ks) = rw is.2 at more.last in
    let told : is.0 ++ told_on v c s old.messages ks ≡ went_on c ks ++ new.out = rw is.2 at more.told in
    record {
      brings = rw at brought;
      last = rw at last;
      told = rw at (ap (λ out. out ++ told_on v c s old.messages ks) is.1 ∙ append_assoc front is.0 (told_on v c s old.messages ks)
          ∙ ap (λ text. front ++ text) told ∙ sym (append_assoc front (went_on c ks) new.out));
    }

-- one event, at its own connection or at another
here : {S A M : Type 0} (v : Serving S A M) (steady : IsSteady v) (is : Bool) (c : ℕ) (s : S) (h : Happening A) (d : ℕ) (e : Event M) (ks : List (Step A M)) (old mid new : Talk)
    → (d == c) ≡ is → (if is then opens_one e else false) ≡ false → MovesIf v is s e old mid → IsTold v c (after_event v s e) mid ks new
    → IsTold v c s old (record { place = d; happening = h; event = e } ∷ ks) new
here v steady true c s h d e ks old mid new at stays is more = own v steady c s h d e ks old mid new at stays is more
here v steady false c s h d e ks old mid new at stays same more = record {
  brings = rw (at, sym same) more.brings;
  last = rw (at, sym same) more.last;
  told = rw (at, sym same) more.told;
}

told : {S A M : Type 0} (v : Serving S A M) → IsSteady v → (c : ℕ) (s : S) (talks : ℕ → Talk) (ks : List (Step A M)) (end : S) (later : ℕ → Talk)
    → Run v s talks ks end later → IsSame c ks → IsTold v c s (talks c) ks (later c)
told v steady c s talks [] end later run same = record {
  brings = append-nil (talks c).bytes ∙ ap (λ (t : Talk). t.bytes) (sym (run.1 c));
  last = tt;
  told = append-nil (talks c).out ∙ ap (λ (t : Talk). t.out) (sym (run.1 c));
}
told v steady c s talks (k ∷ ks) end later run same =
    here v steady (k.place == c) c s k.happening k.place k.event ks (talks c) (run.1 c) (later c) refl same.0 (run.2 c)
    (told v steady c (after_event v s k.event) run.1 ks end later run.3 same.1)

pub served : {S A M : Type 0} (v : Serving S A M) → IsSteady v → (c : ℕ) (s : S) (talks : ℕ → Talk) (ks : List (Step A M)) (end : S) (later : ℕ → Talk)
    → Run v s talks ks end later → IsSame c ks → IsServed v c s (talks c) ks (later c)
served v steady c s talks ks end later run same =
    let is = told v steady c s talks ks end later run same in
    record { came = came_all v c s talks ks end later run; brings = is.brings; last = is.last; told = is.told }

-- a run from connections that are the same
run_from : {S A M : Type 0} (v : Serving S A M) (s t : S) (talks others : ℕ → Talk) (ks : List (Step A M)) (end : S) (later : ℕ → Talk)
    → t ≡ s → ((c : ℕ) → others c ≡ talks c) → Run v t others ks end later → Run v s talks ks end later
run_from v s t talks others [] end later is same run = (run.0 ∙ is, λ c. run.1 c ∙ same c)
run_from {S = S} v s t talks others (k ∷ ks) end later is same run = (
  subst (λ (old : Talk). Fits v old k.happening k.event) (same k.place) run.0,
  run.1,
  λ c. subst (λ (u : S). MovesIf v (k.place == c) u k.event (talks c) (run.1 c)) is
      (subst (λ (old : Talk). MovesIf v (k.place == c) t k.event old (run.1 c)) (same c) (run.2 c)),
  subst (λ (u : S). Run v (after_event v u k.event) run.1 ks end later) is run.3,
)

-- one run behind another
pub run_then : {S A M : Type 0} (v : Serving S A M) (s : S) (talks : ℕ → Talk) (ks : List (Step A M)) (mid : S) (middle : ℕ → Talk) (ls : List (Step A M)) (end : S) (later : ℕ → Talk)
    → Run v s talks ks mid middle → Run v mid middle ls end later → Run v s talks (ks ++ ls) end later
run_then v s talks [] mid middle ls end later first second = run_from v s mid talks middle ls end later first.0 first.1 second
run_then v s talks (k ∷ ks) mid middle ls end later first second =
    (first.0, first.1, first.2, run_then v (after_event v s k.event) first.1 ks mid middle ls end later first.3 second)

pub done_then : {A M : Type 0} (ks ls : List (Step A M)) → done_in (ks ++ ls) ≡ done_in ks ++ done_in ls
done_then [] ls = refl
done_then (k ∷ ks) ls = ap (λ hs. (k.place, k.happening) ∷ hs) (done_then ks ls)

-- a run over steps and more steps is two runs
pub run_split : {S A M : Type 0} (v : Serving S A M) (s : S) (talks : ℕ → Talk) (ks ls : List (Step A M)) (end : S) (later : ℕ → Talk)
    → Run v s talks (ks ++ ls) end later
    → (middle : ℕ → Talk) × Run v s talks ks (led_to v s (handled ks)) middle × Run v (led_to v s (handled ks)) middle ls end later
run_split v s talks [] ls end later run = (talks, (refl, λ c. refl), run)
run_split {S = S} v s talks (k ∷ ks) ls end later (fits, mid, moves, run) =
    let next = after_event v s k.event in
    let more = run_split v next mid ks ls end later run in
    let is = state_step v s k.place k.happening k.event ks (led_to v next (handled ks)) refl in (
      more.0,
      (fits, mid, moves, subst (λ (u : S). Run v next mid ks u more.0) is more.1),
      subst (λ (u : S). Run v u more.0 ls end later) is more.2,
    )

-- a connection that is opened is a new one
opened_here : {S A M : Type 0} (v : Serving S A M) (is : Bool) (s : S) (e : Event M) (old new : Talk)
    → (if is then opens_one e else false) ≡ true → MovesIf v is s e old new → new ≡ silent
opened_here v true s opened old new made moves = moves
opened_here v true s (came piece) old new made moves = absurd (true≢false (sym made))
opened_here v true s gone old new made moves = absurd (true≢false (sym made))
opened_here v true s (took m is_whole) old new made moves = absurd (true≢false (sym made))
opened_here v true s (failed m text is_whole) old new made moves = absurd (true≢false (sym made))
opened_here v true s (refused text is_whole) old new made moves = absurd (true≢false (sym made))
opened_here v true s rested old new made moves = absurd (true≢false (sym made))
opened_here v true s (went front) old new made moves = absurd (true≢false (sym made))
opened_here v false s e old new made moves = absurd (true≢false (sym made))

opened_last : {S A M : Type 0} (v : Serving S A M) (c : ℕ) (s : S) (talks : ℕ → Talk) (ks : List (Step A M)) (end : S) (later : ℕ → Talk)
    → Run v s talks ks end later → EndsOpening c ks → later c ≡ begins_as c talks ks
opened_last v c s talks [] end later run ends = run.1 c
opened_last v c s talks (k ∷ []) end later (fits, mid, moves, run) ends =
    run.1 c ∙ opened_here v (k.place == c) s k.event (talks c) (mid c) ends (moves c)
opened_last v c s talks (k ∷ l ∷ ks) end later (fits, mid, moves, run) ends =
    opened_last v c (after_event v s k.event) mid (l ∷ ks) end later run ends

is_left : {S A M : Type 0} (v : Serving S A M) (c : ℕ) (s : S) (talks : ℕ → Talk) (ks : List (Step A M)) (end : S) (later : ℕ → Talk)
    → Run v s talks ks end later → IsLeft ks (talks c) (later c)
is_left v c s talks [] end later run = sym (run.1 c)
is_left v c s talks (k ∷ ks) end later run = tt

pub each_served : {S A M : Type 0} (v : Serving S A M) → IsSteady v → (s : S) (talks : ℕ → Talk) (ks : List (Step A M)) (end : S) (later : ℕ → Talk)
    → Run v s talks ks end later → EachServed v s talks ks later
each_served {A = A} {M = M} v steady s talks ks end later run c before mine rest is ends same =
    let split = run_split v s talks before (mine ++ rest) end later (subst (λ (all : List (Step A M)). Run v s talks all end later) (sym is) run) in
    let from = led_to v s (handled before) in
    let inner = run_split v from split.0 mine rest end later split.2 in
    let first = opened_last v c s talks before from split.0 split.1 ends in (
      inner.0 c,
      subst (λ (old : Talk). IsServed v c from old mine (inner.0 c)) first
          (served v steady c from split.0 mine (led_to v from (handled mine)) inner.0 inner.1 same),
      is_left v c (led_to v from (handled mine)) inner.0 rest end later inner.2,
    )
