-- Steps over all connections, one after the other.
use Rattle.std.proofs.Common.{◌≡◌, ◌≢◌, ℕ, ◌+◌, ◌<◌, ◌≤◌, Bool, true, false, true≢false, if◌then◌else◌, List, [], ◌∷◌, ◌++◌, length, take, drop, get_or, set, Option, Some, None, Result, Ok, Err, refl, sym, ap, ◌∙◌, subst, append_assoc, take-append-drop}
use Rattle.std.specs.Prelude.{◌==◌, nat_lt, OnErr}
use Rattle.std.proofs.lemmas.List.{drop_more, take_more, get_or_default, get_or-set_other, get_or-set_same}
use Rattle.std.proofs.lemmas.Bool.{eqb-false, eqb-true, le-ltb, lt-ltb}
use Rattle.tb_calls.specs.Call.{State}
use Rattle.tb_calls.specs.Leaving.{Only}
use Rattle.tb_serve.specs.Following.{has_stopped}
use Rattle.tb_serve.specs.Server.{Comes, Happens, HappensTo, IsStopped, Plays, done_at, done_of, talk_at, Timed, server}
use Rattle.tb_serve.specs.declared.happening.PeerEvent.{PeerEvent}
use Rattle.tb_serve.specs.declared.serving.ServeFault.{ServeFault}
use Rattle.tb_serve.specs.declared.serving.ServeFault.TheVariants.{ReadFailed, WriteFailed, Store, Memory}
use Rattle.tb_serve.specs.Turns as turns
use Rattle.tb_serve.specs.Turns.{Event, Moves, MovesIf, Run, Step, Talk, after_event, done_in, silent}
use Rattle.tb_serve.proofs.Interleaved.{done_then, run_then}
use Rattle.tb_site.specs.declared.site.Site.{Site}

eq_is : (m n : ℕ) → (m == n) ≡ true → m ≡ n
eq_is m n is = eqb-true m n is

eq_is_not : (m n : ℕ) → (m == n) ≡ false → n ≢ m
eq_is_not m n is same = eqb-false m n is (sym same)

-- what was done to one connection, among all
pub happens_at : {T : Type 0} (site : Site) (r : Result T ServeFault) (talks : List Talk) (place : ℕ) (d new : Talk) (s : State) (done : turns.Happening (Option ℕ)) (now stops : State → Type 0)
    → place < length talks → HappensTo site r s done (get_or talks place d) new now stops
    → Happens site r s place done (talk_at talks) (talk_at (set talks place new)) now stops
happens_at site r talks place d new s done now stops inside happens = (
  subst (λ (t : Talk). HappensTo site r s done (talk_at talks place) t now stops) (sym (get_or-set_same talks place new silent inside))
      (subst (λ (t : Talk). HappensTo site r s done t new now stops) (get_or_default talks place d silent inside) happens),
  λ c is. get_or-set_other talks place c new silent (eq_is_not place c is),
)

moves_if : (site : Site) (place c : ℕ) (is : Bool) (s : State) (e : Event Timed) (talks later : ℕ → Talk) → (place == c) ≡ is → Moves (server site) s e (talks place) (later place)
    → ((d : ℕ) → (place == d) ≡ false → later d ≡ talks d) → MovesIf (server site) is s e (talks c) (later c)
moves_if site place c true s e talks later at moves others = subst (λ (d : ℕ). Moves (server site) s e (talks d) (later d)) (eq_is place c at) moves
moves_if site place c false s e talks later at moves others = others c at

comes_plays : (site : Site) (fault : Option ServeFault) (s : State) (place : ℕ) (done : turns.Happening (Option ℕ)) (talks later : ℕ → Talk) (now stops : State → Type 0)
    → Comes site fault s done (talks place) (later place) now stops → ((d : ℕ) → (place == d) ≡ false → later d ≡ talks d)
    → Plays site s ((place, done) ∷ []) talks later now stops
comes_plays site fault s place done talks later now stops is others = (
  record { place = place; happening = done; event = is.0 } ∷ [],
  after_event (server site) s is.0,
  refl,
  (is.1, later, λ c. moves_if site place c (place == c) s is.0 talks later refl is.3 others, (refl, λ c. refl)),
  is.4,
)

-- one step was made, or the store failed on it
abbrev pub PlaysIf : Site → Bool → State → List (ℕ × turns.Happening (Option ℕ)) → (ℕ → Talk) → (ℕ → Talk) → (State → Type 0) → (State → Type 0) → Type 0
PlaysIf site true s done talks later now stops = IsStopped site s done talks later now stops
PlaysIf site false s done talks later now stops = Plays site s done talks later now stops

happens_plays : {T : Type 0} (site : Site) (r : Result T ServeFault) (s : State) (place : ℕ) (done : turns.Happening (Option ℕ)) (talks later : ℕ → Talk) (now stops : State → Type 0)
    → Happens site r s place done talks later now stops → PlaysIf site (has_stopped r) s ((place, done) ∷ []) talks later now stops
happens_plays site (Ok x) s place done talks later now stops is = comes_plays site None s place done talks later now stops is.0 is.1
happens_plays site (Err ReadFailed) s place done talks later now stops is = absurd is.0
happens_plays site (Err WriteFailed) s place done talks later now stops is = comes_plays site (Some WriteFailed) s place done talks later now stops is.0 is.1
happens_plays site (Err Memory) s place done talks later now stops is = comes_plays site (Some Memory) s place done talks later now stops is.0 is.1
happens_plays site (Err Store) s place done talks later now stops is = record {
  ks = [];
  end = s;
  middle = talks;
  place = place;
  last = done;
  rest = [];
  done_is = refl;
  run = (refl, λ c. refl);
  stopped = is.0;
  others = is.1;
}

pub plays_none : (site : Site) (s : State) (talks : ℕ → Talk) (now stops : State → Type 0) → now s → Only s stops → Plays site s [] talks talks now stops
plays_none site s talks now stops held only = ([], s, refl, (refl, λ c. refl), record { held = held; stops = only })

one_done : (count place : ℕ) (h : PeerEvent) → place < count → done_at count ((place, h) ∷ []) ≡ (place, done_of h) ∷ []
one_done count place h inside = ap (λ b. if b then (place, done_of h) ∷ [] else []) (lt-ltb place count inside)

none_done : (count place : ℕ) (h : PeerEvent) → count ≤ place → done_at count ((place, h) ∷ []) ≡ []
none_done count place h past = ap (λ b. if b then (place, done_of h) ∷ [] else []) (le-ltb place count past)

-- what is done at a place that there is, and what is passed over
pub entry_plays : {T : Type 0} (site : Site) (r : Result T ServeFault) (stopped : Bool) (s : State) (count place : ℕ) (h : PeerEvent) (talks later : ℕ → Talk) (now stops : State → Type 0)
    → place < count → has_stopped r ≡ stopped → Happens site r s place (done_of h) talks later now stops
    → PlaysIf site stopped s (done_at count ((place, h) ∷ [])) talks later now stops
entry_plays site r stopped s count place h talks later now stops inside is happens =
    subst (λ (done : List (ℕ × turns.Happening (Option ℕ))). PlaysIf site stopped s done talks later now stops) (sym (one_done count place h inside))
    (subst (λ (b : Bool). PlaysIf site b s ((place, done_of h) ∷ []) talks later now stops) is (happens_plays site r s place (done_of h) talks later now stops happens))

pub entry_passed : (site : Site) (s : State) (count place : ℕ) (h : PeerEvent) (talks : ℕ → Talk) (now stops : State → Type 0) → count ≤ place → now s → Only s stops
    → Plays site s (done_at count ((place, h) ∷ [])) talks talks now stops
entry_passed site s count place h talks now stops past held only =
    subst (λ (done : List (ℕ × turns.Happening (Option ℕ))). Plays site s done talks talks now stops) (sym (none_done count place h past)) (plays_none site s talks now stops held only)

pub stopped_is : {T : Type 0} (r : Result T ServeFault) → has_stopped r ≡ true → r ≡ Err Store
stopped_is (Ok x) is = absurd (true≢false (sym is))
stopped_is (Err ReadFailed) is = absurd (true≢false (sym is))
stopped_is (Err WriteFailed) is = absurd (true≢false (sym is))
stopped_is (Err Store) is = refl
stopped_is (Err Memory) is = absurd (true≢false (sym is))

-- ---- one after the other

both : {A : Type 0} (a b c d : List A) → a ≡ b → c ≡ d → a ++ c ≡ b ++ d
both a b c d ab cd = rw (ab, cd) refl

pub plays_then : (site : Site) (s : State) (done more : List (ℕ × turns.Happening (Option ℕ))) (talks middle later : ℕ → Talk) (now stops next next_stops : State → Type 0)
    → Plays site s done talks middle now stops → ((t : State) → now t → Only t stops → Plays site t more middle later next next_stops)
    → Plays site s (done ++ more) talks later next next_stops
plays_then site s done more talks middle later now stops next next_stops first go_on =
    let second = go_on first.1 first.4.held first.4.stops in (
      first.0 ++ second.0,
      second.1,
      done_then first.0 second.0 ∙ both (done_in first.0) done (done_in second.0) more first.2 second.2,
      run_then (server site) s talks first.0 first.1 middle second.0 second.1 later first.3 second.3,
      second.4,
    )

pub plays_stopped : (site : Site) (s : State) (done more after : List (ℕ × turns.Happening (Option ℕ))) (talks middle later : ℕ → Talk) (now stops next next_stops : State → Type 0)
    → Plays site s done talks middle now stops → ((t : State) → now t → Only t stops → IsStopped site t more middle later next next_stops)
    → IsStopped site s (done ++ (more ++ after)) talks later next next_stops
plays_stopped site s done more after talks middle later now stops next next_stops first go_on =
    let second = go_on first.1 first.4.held first.4.stops in
    let at : ℕ × turns.Happening (Option ℕ) = (second.place, second.last) in
    let tail : done_in second.ks ++ at ∷ (second.rest ++ after) ≡ more ++ after =
    sym (append_assoc (done_in second.ks) (at ∷ second.rest) after) ∙ ap (λ l. l ++ after) second.done_is in
    record {
      ks = first.0 ++ second.ks;
      end = second.end;
      middle = second.middle;
      place = second.place;
      last = second.last;
      rest = second.rest ++ after;
      done_is = ap (λ l. l ++ at ∷ (second.rest ++ after)) (done_then first.0 second.ks)
          ∙ append_assoc (done_in first.0) (done_in second.ks) (at ∷ (second.rest ++ after))
          ∙ both (done_in first.0) done (done_in second.ks ++ at ∷ (second.rest ++ after)) (more ++ after) first.2 tail;
      run = run_then (server site) s talks first.0 first.1 middle second.ks second.end second.middle first.3 second.run;
      stopped = second.stopped;
      others = second.others;
    }

-- ---- what is done, in parts

append_if : (b : Bool) (count : ℕ) (x : ℕ × PeerEvent) (xs ys : List (ℕ × PeerEvent)) → done_at count (xs ++ ys) ≡ done_at count xs ++ done_at count ys
    → (if b then (x.0, done_of x.1) ∷ done_at count (xs ++ ys) else done_at count (xs ++ ys))
    ≡ (if b then (x.0, done_of x.1) ∷ done_at count xs else done_at count xs) ++ done_at count ys
append_if true count x xs ys more = ap (λ l. (x.0, done_of x.1) ∷ l) more
append_if false count x xs ys more = more

done_append : (count : ℕ) (xs ys : List (ℕ × PeerEvent)) → done_at count (xs ++ ys) ≡ done_at count xs ++ done_at count ys
done_append count [] ys = refl
done_append count (x ∷ xs) ys = append_if (nat_lt x.0 count) count x xs ys (done_append count xs ys)

front_more : (hs : List (ℕ × PeerEvent)) (i : ℕ) (h : ℕ × PeerEvent) → i < length hs → h ≡ get_or hs i h → take i hs ++ (h ∷ drop (i + 1) hs) ≡ hs
front_more hs i h within is =
    ap (λ x. take i hs ++ (x ∷ drop (i + 1) hs)) is ∙ ap (λ l. take i hs ++ l) (sym (drop_more hs i h within)) ∙ take-append-drop i hs

-- all that is done: what is before one, that one, and what is behind it
pub done_split : (count : ℕ) (hs : List (ℕ × PeerEvent)) (i : ℕ) (h : ℕ × PeerEvent) → i < length hs → h ≡ get_or hs i h
    → done_at count (take i hs) ++ (done_at count (h ∷ []) ++ done_at count (drop (i + 1) hs)) ≡ done_at count hs
done_split count hs i h within is =
    ap (λ l. done_at count (take i hs) ++ l) (sym (done_append count (h ∷ []) (drop (i + 1) hs)))
    ∙ sym (done_append count (take i hs) (h ∷ drop (i + 1) hs))
    ∙ ap (done_at count) (front_more hs i h within is)

-- all that is done up to one, and that one
pub done_more : (count : ℕ) (hs : List (ℕ × PeerEvent)) (i : ℕ) (h : ℕ × PeerEvent) → i < length hs → h ≡ get_or hs i h
    → done_at count (take i hs) ++ done_at count (h ∷ []) ≡ done_at count (take (i + 1) hs)
done_more count hs i h within is =
    sym (done_append count (take i hs) (h ∷ []))
    ∙ ap (λ x. done_at count (take i hs ++ (x ∷ []))) is
    ∙ ap (done_at count) (sym (take_more hs i h within))

pub on_err : {T E : Type 0} (r : Result T E) (X : Type 0) → X → OnErr r X
on_err (Ok x) X is = tt
on_err (Err e) X is = is
