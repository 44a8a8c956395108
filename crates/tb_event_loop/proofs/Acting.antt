-- Deeds, one after the other.
use Rattle.std.proofs.Common.{◌≡◌, ℕ, ◌<◌, ◌≤◌, Bool, true, false, List, [], ◌∷◌, ◌++◌, length, take, drop, refl, sym, ap, ◌∙◌, subst, append-nil, append_assoc, inl, inr, arith}
use Rattle.std.proofs.lemmas.Bool.{and_from, and_parts, false≢true}
use Rattle.std.proofs.lemmas.List.{length-take-le, take-append-drop}
use Rattle.tb_event_loop.specs.Deeds.{Acts, ActsAt, AreAt, Begins, Comes, Deed, Did, Does, DoesTo, GivesTurn, Owes, TurnsOrNot, called, calls_by, calls_in, done_by, done_in, gave_turn}
use Rattle.tb_event_loop.specs.Done.{Done, came, ends_in, opened, turned, went}
use Rattle.tb_event_loop.specs.Sockets.{Called, Quietly, accepted, are_quiet, closed, deaf, dropped, is_quiet, read, seated, shut, unaccepted, unread, unwritten, waited, wrote}
use Rattle.tb_event_loop.proofs.Doing.{done_append}

calls_append : (xs ys : List Deed) → calls_in (xs ++ ys) ≡ calls_in xs ++ calls_in ys
calls_append [] ys = refl
calls_append (deed ∷ xs) ys =
    ap (λ more. calls_by deed ++ more) (calls_append xs ys) ∙ sym (append_assoc (calls_by deed) (calls_in xs) (calls_in ys))

are_append : (place : ℕ) (xs ys : List (ℕ × Done)) → AreAt place xs → AreAt place ys → AreAt place (xs ++ ys)
are_append place [] ys first more = more
are_append place (x ∷ xs) ys first more = (first.0, are_append place xs ys first.1 more)

module _ {V : Type 0} (happens : Bool → List (ℕ × Done) → V → V → Type 0) (owed : V → ℕ → List ℕ) where
  does_then : (xs ys : List Deed) (a b c : V) → Does happens owed xs a b → Does happens owed ys b c → Does happens owed (xs ++ ys) a c
  does_then [] ys a b c first more = subst (λ (v : V). Does happens owed ys v c) first more
  does_then (deed ∷ xs) ys a b c first more = (first.0, first.1, first.2, does_then xs ys first.1 b c first.3 more)

  does_to_then : (stopped : Bool) (xs ys : List Deed) (a b c : V) → Does happens owed xs a b → DoesTo happens owed stopped ys b c
      → DoesTo happens owed stopped (xs ++ ys) a c
  does_to_then false xs ys a b c first more = does_then xs ys a b c first more
  does_to_then true xs ys a b c first more = (
    xs ++ more.0,
    more.1,
    ap (λ zs. xs ++ zs) more.2 ∙ sym (append_assoc xs more.0 (more.1 ∷ [])),
    more.3,
    does_then xs more.0 a b more.3 first more.4,
    more.5,
    more.6,
  )

  does_one : (stopped : Bool) (deed : Deed) (a b : V) → Owes happens owed deed a → Comes happens owed (done_by deed) stopped a b
      → DoesTo happens owed stopped (deed ∷ []) a b
  does_one false deed a b owes comes = (owes, b, comes, refl)
  does_one true deed a b owes comes = ([], deed, refl, a, refl, owes, comes)

-- calls that have nothing for a service
abbrev quiet_deeds : List Called → List Deed
quiet_deeds [] = []
quiet_deeds (call ∷ calls) = called call ∷ quiet_deeds calls

calls_of_quiet : (calls : List Called) → calls_in (quiet_deeds calls) ≡ calls
calls_of_quiet [] = refl
calls_of_quiet (call ∷ calls) = ap (λ more. call ∷ more) (calls_of_quiet calls)

ends_of_quiet : (call : Called) → is_quiet call ≡ true → done_by (called call) ≡ []
ends_of_quiet (waited millis told) is = refl
ends_of_quiet deaf is = refl
ends_of_quiet accepted is = refl
ends_of_quiet (unaccepted kind) is = refl
ends_of_quiet (seated place told) is = refl
ends_of_quiet (read place bytes) is = absurd (false≢true is)
ends_of_quiet (unread place kind) is = refl
ends_of_quiet (dropped place count) is = refl
ends_of_quiet (wrote place bytes) is = absurd (false≢true is)
ends_of_quiet (unwritten place kind) is = refl
ends_of_quiet (shut place) is = refl
ends_of_quiet (closed place) is = absurd (false≢true is)

done_of_quiet : (calls : List Called) → are_quiet calls ≡ true → done_in (quiet_deeds calls) ≡ []
done_of_quiet [] are = refl
done_of_quiet (call ∷ calls) are =
    let both = and_parts (is_quiet call) (are_quiet calls) are in
    ap (λ first. first ++ done_in (quiet_deeds calls)) (ends_of_quiet call both.0) ∙ done_of_quiet calls both.1

module _ {V : Type 0} (happens : Bool → List (ℕ × Done) → V → V → Type 0) (owed : V → ℕ → List ℕ) where
  owes_quiet : (call : Called) → is_quiet call ≡ true → (v : V) → Owes happens owed (called call) v
  owes_quiet (waited millis told) is v = tt
  owes_quiet deaf is v = tt
  owes_quiet accepted is v = tt
  owes_quiet (unaccepted kind) is v = tt
  owes_quiet (seated place told) is v = tt
  owes_quiet (read place bytes) is v = tt
  owes_quiet (unread place kind) is v = tt
  owes_quiet (dropped place count) is v = tt
  owes_quiet (wrote place bytes) is v = absurd (false≢true is)
  owes_quiet (unwritten place kind) is v = tt
  owes_quiet (shut place) is v = tt
  owes_quiet (closed place) is v = tt

  does_quiet : (calls : List Called) → are_quiet calls ≡ true → (v : V) → Does happens owed (quiet_deeds calls) v v
  does_quiet [] are v = refl
  does_quiet (call ∷ calls) are v =
      let both = and_parts (is_quiet call) (are_quiet calls) are in (
        owes_quiet call both.0 v,
        v,
        subst (λ (done : List (ℕ × Done)). Comes happens owed done false v v) (sym (ends_of_quiet call both.0)) refl,
        does_quiet calls both.1 v,
      )

pub quiet_one : {N : Type 0} (asks : List Called → N → N → Type 0) (call : Called) → is_quiet call ≡ true → (n m : N) → asks (call ∷ []) n m → Quietly asks n m
quiet_one asks call is n m asked = record { calls = call ∷ []; made = asked; quiet = and_from (is_quiet call) true is refl }

pub quiet_none : {N : Type 0} (asks : List Called → N → N → Type 0) → ((n : N) → asks [] n n) → (n : N) → Quietly asks n n
quiet_none asks unchanged n = record { calls = []; made = unchanged n; quiet = refl }

pub quiet_append : (xs ys : List Called) → are_quiet xs ≡ true → are_quiet ys ≡ true → are_quiet (xs ++ ys) ≡ true
quiet_append [] ys first more = more
quiet_append (call ∷ xs) ys first more =
    let both = and_parts (is_quiet call) (are_quiet xs) first in and_from (is_quiet call) (are_quiet (xs ++ ys)) both.0 (quiet_append xs ys both.1 more)

pub quiet_then : {N : Type 0} (asks : List Called → N → N → Type 0)
    → ((first more : List Called) (a b c : N) → asks first a b → asks more b c → asks (first ++ more) a c) → (a b c : N) → Quietly asks a b → Quietly asks b c
    → Quietly asks a c
quiet_then asks joined a b c first more = record {
  calls = first.calls ++ more.calls;
  made = joined first.calls more.calls a b c first.made more.made;
  quiet = quiet_append first.calls more.calls first.quiet more.quiet;
}

take_none : (xs : List ℕ) → take 0 xs ≡ []
take_none [] = refl
take_none (x ∷ xs) = refl

module _ {N V : Type 0} (asks : List Called → N → N → Type 0) (happens : Bool → List (ℕ × Done) → V → V → Type 0) (owed : V → ℕ → List ℕ) where
  -- one part behind the other
  pub acts_then : ((first more : List Called) (a b c : N) → asks first a b → asks more b c → asks (first ++ more) a c)
      → (stopped : Bool) (xs ys : List Deed) (a b c : N × V) → Acts asks happens owed false xs a b → Acts asks happens owed stopped ys b c
      → Acts asks happens owed stopped (xs ++ ys) a c
  acts_then joined stopped xs ys a b c first more = (
    subst (λ (calls : List Called). asks calls a.0 c.0) (sym (calls_append xs ys)) (joined (calls_in xs) (calls_in ys) a.0 b.0 c.0 first.0 more.0),
    does_to_then happens owed stopped xs ys a.1 b.1 c.1 first.1 more.1,
  )

  pub did_quiet : (old new : N) (v : V) → Quietly asks old new → Did (Acts asks happens owed) false 0 (old, v) (new, v)
  did_quiet old new v quiet = record {
    deeds = quiet_deeds quiet.calls;
    done = (
      subst (λ (calls : List Called). asks calls old new) (sym (calls_of_quiet quiet.calls)) quiet.made,
      does_quiet happens owed quiet.calls quiet.quiet v,
    );
    ends = ap ends_in (done_of_quiet quiet.calls quiet.quiet);
  }

  pub did_nothing : ((n : N) → asks [] n n) → (n : N) (v : V) → Did (Acts asks happens owed) false 0 (n, v) (n, v)
  did_nothing unchanged n v = record { deeds = []; done = (unchanged n, refl); ends = refl }

  -- bytes that came and were handed on
  pub acts_came : (stopped : Bool) (place : ℕ) (bytes : List ℕ) (n m : N) (v w : V) → asks (read place bytes ∷ []) n m → 0 < length bytes
      → happens stopped ((place, came bytes) ∷ []) v w → Acts asks happens owed stopped (called (read place bytes) ∷ []) (n, v) (m, w)
  acts_came stopped place [] n m v w asked some happened = absurd (omega (arith, some))
  acts_came stopped place (byte ∷ bytes) n m v w asked some happened =
      (asked, does_one happens owed stopped (called (read place (byte ∷ bytes))) v w tt happened)

  -- bytes of the front of what is owed that were taken
  pub acts_went : (stopped : Bool) (place : ℕ) (bytes rest : List ℕ) (n m : N) (v w : V) → asks (wrote place bytes ∷ []) n m → 0 < length bytes
      → owed v place ≡ bytes ++ rest → happens stopped ((place, went (length bytes)) ∷ []) v w
      → Acts asks happens owed stopped (called (wrote place bytes) ∷ []) (n, v) (m, w)
  acts_went stopped place [] rest n m v w asked some owes happened = absurd (omega (arith, some))
  acts_went stopped place (byte ∷ bytes) rest n m v w asked some owes happened =
      (asked, does_one happens owed stopped (called (wrote place (byte ∷ bytes))) v w (rest, owes) happened)

  pub acts_turn : ((n : N) → asks [] n n) → (stopped : Bool) (place : ℕ) (n : N) (v w : V) → happens stopped ((place, turned) ∷ []) v w
      → Acts asks happens owed stopped (gave_turn place ∷ []) (n, v) (n, w)
  acts_turn unchanged stopped place n v w happened = (unchanged n, does_one happens owed stopped (gave_turn place) v w tt happened)

  pub acts_closed : (stopped : Bool) (place : ℕ) (n m : N) (v w : V) → asks (closed place ∷ []) n m → happens stopped ((place, opened) ∷ []) v w
      → Acts asks happens owed stopped (called (closed place) ∷ []) (n, v) (m, w)
  acts_closed stopped place n m v w asked happened = (asked, does_one happens owed stopped (called (closed place)) v w tt happened)

  -- ---- what was done to the connection of one place

  pub acts_at_then : (place : ℕ) → ((first more : List Called) (a b c : N) → asks first a b → asks more b c → asks (first ++ more) a c)
      → (stopped : Bool) (xs ys : List Deed) (a b c : N × V) → ActsAt place asks happens owed false xs a b → ActsAt place asks happens owed stopped ys b c
      → ActsAt place asks happens owed stopped (xs ++ ys) a c
  acts_at_then place joined stopped xs ys a b c first more = (
    acts_then joined stopped xs ys a b c first.0 more.0,
    subst (AreAt place) (sym (done_append xs ys)) (are_append place (done_in xs) (done_in ys) first.1 more.1),
  )

  pub at_quiet : (place : ℕ) (old new : N) (v : V) → Quietly asks old new → Did (ActsAt place asks happens owed) false 0 (old, v) (new, v)
  at_quiet place old new v quiet =
      let none = done_of_quiet quiet.calls quiet.quiet in
      record {
        deeds = quiet_deeds quiet.calls;
        done = (
          (
            subst (λ (calls : List Called). asks calls old new) (sym (calls_of_quiet quiet.calls)) quiet.made,
            does_quiet happens owed quiet.calls quiet.quiet v,
          ),
          subst (AreAt place) (sym none) tt,
        );
        ends = ap ends_in none;
      }

  pub at_nothing : (place : ℕ) → ((n : N) → asks [] n n) → (n : N) (v : V) → Did (ActsAt place asks happens owed) false 0 (n, v) (n, v)
  at_nothing place unchanged n v = record { deeds = []; done = ((unchanged n, refl), tt); ends = refl }

  pub did_turn : ((n : N) → asks [] n n) → (stopped : Bool) (place : ℕ) (n : N) (v w : V) → TurnsOrNot happens stopped place v w
      → Did (ActsAt place asks happens owed) stopped 0 (n, v) (n, w)
  did_turn unchanged stopped place n v w (inl is) =
      record { deeds = gave_turn place ∷ []; done = (acts_turn unchanged stopped place n v w is, (refl, tt)); ends = refl }
  did_turn unchanged stopped place n v w (inr is) =
      subst (λ (s : Bool). Did (ActsAt place asks happens owed) s 0 (n, v) (n, w)) (sym is.0)
      (subst (λ (u : V). Did (ActsAt place asks happens owed) false 0 (n, v) (n, u)) (sym is.1) (at_nothing place unchanged n v))

  pub begins_turn : ((n : N) → asks [] n n) → (stopped : Bool) (place : ℕ) (n : N) (v w : V) → happens stopped ((place, turned) ∷ []) v w
      → GivesTurn (ActsAt place asks happens owed) stopped place (n, v) (n, w)
  begins_turn unchanged stopped place n v w is =
      record { first = gave_turn place; is = refl; more = []; done = (acts_turn unchanged stopped place n v w is, (refl, tt)); ends = refl }

  -- ---- one read

  pub reads_nothing : (place count : ℕ) (piece : List ℕ) (n m : N) (v : V) → count ≡ 0 → asks (read place (take count piece) ∷ []) n m
      → Acts asks happens owed false (called (read place []) ∷ []) (n, v) (m, v)
  reads_nothing place count piece n m v none asked =
      let asked_none = subst (λ (k : ℕ). asks (read place (take k piece) ∷ []) n m) none asked in
      (subst (λ (bytes : List ℕ). asks (read place bytes ∷ []) n m) (take_none piece) asked_none, (tt, v, refl, refl))

  pub reads_some : (stopped : Bool) (place count : ℕ) (piece : List ℕ) (n m : N) (v w : V) → 0 < count → count ≤ length piece
      → asks (read place (take count piece) ∷ []) n m → happens stopped ((place, came (take count piece)) ∷ []) v w
      → Acts asks happens owed stopped (called (read place (take count piece)) ∷ []) (n, v) (m, w)
  reads_some stopped place count piece n m v w some within asked happened =
      let size = length-take-le count piece within in
      acts_came stopped place (take count piece) n m v w asked (omega (arith, size, some)) happened

  pub did_read : (stopped : Bool) (place : ℕ) (bytes : List ℕ) (a b : N × V) → Acts asks happens owed stopped (called (read place bytes) ∷ []) a b
      → Did (ActsAt place asks happens owed) stopped 0 a b
  did_read stopped place [] a b done = record { deeds = called (read place []) ∷ []; done = (done, tt); ends = refl }
  did_read stopped place (byte ∷ bytes) a b done = record { deeds = called (read place (byte ∷ bytes)) ∷ []; done = (done, (refl, tt)); ends = refl }

  pub begins_read : (kind : Deed → Type 0) (stopped : Bool) (place : ℕ) (bytes : List ℕ) (a b : N × V) → kind (called (read place bytes))
      → Acts asks happens owed stopped (called (read place bytes) ∷ []) a b → Begins (ActsAt place asks happens owed) stopped kind a b
  begins_read kind stopped place [] a b is done = record { first = called (read place []); is = is; more = []; done = (done, tt); ends = refl }
  begins_read kind stopped place (byte ∷ bytes) a b is done =
      record { first = called (read place (byte ∷ bytes)); is = is; more = []; done = (done, (refl, tt)); ends = refl }

  pub did_fail : (place : ℕ) (call : Called) → is_quiet call ≡ true → (n m : N) (v : V) → asks (call ∷ []) n m
      → Did (ActsAt place asks happens owed) false 0 (n, v) (m, v)
  did_fail place call is n m v asked = at_quiet place n m v (quiet_one asks call is n m asked)

  -- ---- one write

  pub writes_nothing : (place count : ℕ) (bytes : List ℕ) (n m : N) (v : V) → count ≡ 0 → asks (wrote place (take count bytes) ∷ []) n m
      → Acts asks happens owed false (called (wrote place []) ∷ []) (n, v) (m, v)
  writes_nothing place count bytes n m v none asked =
      let asked_none = subst (λ (k : ℕ). asks (wrote place (take k bytes) ∷ []) n m) none asked in
      (subst (λ (taken : List ℕ). asks (wrote place taken ∷ []) n m) (take_none bytes) asked_none, ((owed v place, refl), v, refl, refl))

  pub writes_some : (stopped : Bool) (place count : ℕ) (bytes : List ℕ) (n m : N) (v w : V) → 0 < count → count ≤ length bytes
      → bytes ≡ owed v place → asks (wrote place (take count bytes) ∷ []) n m → happens stopped ((place, went count) ∷ []) v w
      → Acts asks happens owed stopped (called (wrote place (take count bytes)) ∷ []) (n, v) (m, w)
  writes_some stopped place count bytes n m v w some within is asked happened =
      let size = length-take-le count bytes within in
      acts_went stopped place (take count bytes) (drop count bytes) n m v w asked (omega (arith, size, some))
      (sym is ∙ sym (take-append-drop count bytes)) (subst (λ (k : ℕ). happens stopped ((place, went k) ∷ []) v w) (sym size) happened)

  pub did_write : (stopped : Bool) (place : ℕ) (bytes : List ℕ) (a b : N × V) → Acts asks happens owed stopped (called (wrote place bytes) ∷ []) a b
      → Did (ActsAt place asks happens owed) stopped 0 a b
  did_write stopped place [] a b done = record { deeds = called (wrote place []) ∷ []; done = (done, tt); ends = refl }
  did_write stopped place (byte ∷ bytes) a b done = record { deeds = called (wrote place (byte ∷ bytes)) ∷ []; done = (done, (refl, tt)); ends = refl }

  pub begins_write : (kind : Deed → Type 0) (stopped : Bool) (place : ℕ) (bytes : List ℕ) (a b : N × V) → kind (called (wrote place bytes))
      → Acts asks happens owed stopped (called (wrote place bytes) ∷ []) a b → Begins (ActsAt place asks happens owed) stopped kind a b
  begins_write kind stopped place [] a b is done = record { first = called (wrote place []); is = is; more = []; done = (done, tt); ends = refl }
  begins_write kind stopped place (byte ∷ bytes) a b is done =
      record { first = called (wrote place (byte ∷ bytes)); is = is; more = []; done = (done, (refl, tt)); ends = refl }

  -- what was done to the service alone
  comes_happens : ((v : V) → happens false [] v v) → (done : List (ℕ × Done)) (stopped : Bool) (a b : V) → Comes happens owed done stopped a b → happens stopped done a b
  comes_happens unchanged [] false a b is = subst (λ (v : V). happens false [] a v) (sym is) (unchanged a)
  comes_happens unchanged [] true a b is = absurd is
  comes_happens unchanged (done ∷ more) stopped a b is = is

  does_happens : ((v : V) → happens false [] v v)
      → ((stopped : Bool) (first more : List (ℕ × Done)) (a b c : V) → happens false first a b → happens stopped more b c → happens stopped (first ++ more) a c)
      → (deeds : List Deed) (a b : V) → Does happens owed deeds a b → happens false (done_in deeds) a b
  does_happens unchanged joined [] a b is = subst (λ (v : V). happens false [] a v) (sym is) (unchanged a)
  does_happens unchanged joined (deed ∷ deeds) a b is =
      joined false (done_by deed) (done_in deeds) a is.1 b (comes_happens unchanged (done_by deed) false a is.1 is.2)
      (does_happens unchanged joined deeds is.1 b is.3)

  does_to_happens : ((v : V) → happens false [] v v)
      → ((stopped : Bool) (first more : List (ℕ × Done)) (a b c : V) → happens false first a b → happens stopped more b c → happens stopped (first ++ more) a c)
      → (stopped : Bool) (deeds : List Deed) (a b : V) → DoesTo happens owed stopped deeds a b → happens stopped (done_in deeds) a b
  does_to_happens unchanged joined false deeds a b is = does_happens unchanged joined deeds a b is
  does_to_happens unchanged joined true deeds a b is =
      let front = is.0 in
      let last = is.1 in
      let ends : done_in deeds ≡ done_in front ++ done_by last =
      ap done_in is.2 ∙ done_append front (last ∷ []) ∙ ap (λ more. done_in front ++ more) (append-nil (done_by last)) in
      subst (λ (done : List (ℕ × Done)). happens true done a b) (sym ends)
      (joined true (done_in front) (done_by last) a is.3 b (does_happens unchanged joined front a is.3 is.4)
      (comes_happens unchanged (done_by last) true is.3 b is.6))

  pub acts_happens : ((v : V) → happens false [] v v)
      → ((stopped : Bool) (first more : List (ℕ × Done)) (a b c : V) → happens false first a b → happens stopped more b c → happens stopped (first ++ more) a c)
      → (stopped : Bool) (deeds : List Deed) (a b : N × V) → Acts asks happens owed stopped deeds a b → happens stopped (done_in deeds) a.1 b.1
  acts_happens unchanged joined stopped deeds a b is = does_to_happens unchanged joined stopped deeds a.1 b.1 is.1
