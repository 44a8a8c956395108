-- A run of the loop, one round after the other.
use Rattle.std.proofs.Common.{◌≡◌, ℕ, ◌+◌, ◌≤◌, Bool, true, false, List, [], ◌∷◌, ◌++◌, length, Option, Some, None, unwrap_or, Result, Ok, Err, is_err, refl, sym, ap, ◌∙◌, subst, append-nil, length-append, arith}
use Rattle.std.specs.Prelude.{OnErr, OnOk}
use Rattle.std.proofs.lemmas.Bool.{false≢true, true≢false}
use Rattle.std.proofs.lemmas.Option.{none-some}
use Rattle.tb_event_loop.specs.Deeds.{Acts, calls_in, done_in}
use Rattle.tb_event_loop.specs.Done.{Done, ends_in}
use Rattle.tb_event_loop.specs.Farewell.{SaysFarewell}
use Rattle.tb_event_loop.specs.History.{EndsAll, Goes, Leaves}
use Rattle.tb_event_loop.specs.Serving.{Runs}
use Rattle.tb_event_loop.specs.Sockets.{Called, Quietly}
use Rattle.tb_event_loop.proofs.Acting.{acts_happens, acts_then, did_quiet}
use Rattle.tb_event_loop.proofs.Doing.{ends_most, goes_on, goes_then}

pub ends_well : (limit : Option ℕ) (ended : ℕ) (now : Option ℕ) → Leaves limit ended now → now ≡ Some 0 → limit ≡ Some ended
ends_well None ended now leaves none = absurd (none-some 0 (sym leaves ∙ none))
ends_well (Some limit) ended now leaves none =
    let left : leaves.0 ≡ 0 = ap (λ (o : Option ℕ). unwrap_or o 0) (sym leaves.1 ∙ none) in
    ap Some (omega (arith, left, leaves.2))

-- what holds of Ok, where it is no error
pub on_ok : {T E : Type 0} (result : Result T E) {P : Type 0} → is_err result ≡ false → OnOk result P → P
on_ok (Ok x) isnt holds = holds
on_ok (Err e) isnt holds = absurd (true≢false isnt)

-- what holds of any
pub on_any : {T E : Type 0} (result : Result T E) {P : Type 0} → P → OnOk result P
on_any (Ok x) holds = holds
on_any (Err e) holds = tt

-- what holds, where it is an error
pub on_err : {T E : Type 0} (result : Result T E) {P : Type 0} → is_err result ≡ true → P → OnErr result P
on_err (Ok x) is holds = tt
on_err (Err e) is holds = holds

-- and what holds of an error
pub by_err : {T E : Type 0} (result : Result T E) {P : Type 0} → is_err result ≡ true → OnErr result P → P
by_err (Ok x) is holds = absurd (true≢false (sym is))
by_err (Err e) is holds = holds

-- calls, and at least so many of them
pub record Asked {N : Type 0} (asks : List Called → N → N → Type 0) (count : ℕ) (old new : N) : Type 0 where
  pub calls : List Called
  pub made : asks calls old new
  pub size : count ≤ length calls

module _ {N V : Type 0} (asks : List Called → N → N → Type 0) (happens : Bool → List (ℕ × Done) → V → V → Type 0) (owed : V → ℕ → List ℕ)
    (joined : (first more : List Called) (a b c : N) → asks first a b → asks more b c → asks (first ++ more) a c) where
  pub goes_quiet : (limit before now : Option ℕ) (a : N × V) (n m : N) (v : V) → Goes (Acts asks happens owed) false limit before a (n, v) → now ≡ before
      → Quietly asks n m → Goes (Acts asks happens owed) false limit now a (m, v)
  goes_quiet limit before now a n m v so_far same quiet =
      subst (λ (o : Option ℕ). Goes (Acts asks happens owed) false limit o a (m, v)) (sym same)
      (goes_then (Acts asks happens owed) (acts_then asks happens owed joined) false limit before before a (n, v) (m, v) so_far
      (goes_on (Acts asks happens owed) false before (n, v) (m, v) (did_quiet asks happens owed n m v quiet)))

  module _ (unchanged : (v : V) → happens false [] v v)
      (more : (stopped : Bool) (first more : List (ℕ × Done)) (a b c : V) → happens false first a b → happens stopped more b c → happens stopped (first ++ more) a c) where
    abbrev RunsTo : {T E : Type 0} → Result T E → Bool → Option ℕ → N × V → N × V → Type 0
    RunsTo result stopped limit a b = (runs : Runs asks happens owed stopped a b) × EndsAll result limit (ends_in (done_in runs.deeds))

    -- a run with what is said of how many ended
    pub runs_well : (E : Type 0) (limit now : Option ℕ) (a b : N × V) → Goes (Acts asks happens owed) false limit now a b → now ≡ Some 0
        → RunsTo {T = Unit {0}} {E = E} (Ok tt) false limit a b
    runs_well E limit now a b goes none = (
      record {
        deeds = goes.1.deeds;
        farewells = [];
        asked = subst (λ (calls : List Called). asks calls a.0 b.0) (sym (append-nil (calls_in goes.1.deeds))) goes.1.done.0;
        does = goes.1.done.1;
        made = acts_happens asks happens owed unchanged more false goes.1.deeds a b goes.1.done;
        last = tt;
        none = λ is. refl;
      },
      ends_well limit goes.0 now goes.2 none ∙ sym (ap Some goes.1.ends),
    )

    pub runs_early : {E : Type 0} (fault : E) (limit now : Option ℕ) (a b : N × V) → Goes (Acts asks happens owed) false limit now a b
        → RunsTo {T = Unit {0}} (Err fault) false limit a b
    runs_early fault limit now a b goes = (
      record {
        deeds = goes.1.deeds;
        farewells = [];
        asked = subst (λ (calls : List Called). asks calls a.0 b.0) (sym (append-nil (calls_in goes.1.deeds))) goes.1.done.0;
        does = goes.1.done.1;
        made = acts_happens asks happens owed unchanged more false goes.1.deeds a b goes.1.done;
        last = tt;
        none = λ is. refl;
      },
      ends_most limit (ends_in (done_in goes.1.deeds)) now (subst (λ (n : ℕ). Leaves limit n now) (sym goes.1.ends) goes.2),
    )

    pub runs_failed : {E : Type 0} (fault : E) (limit now : Option ℕ) (a : N × V) (n m : N) (v : V) → Goes (Acts asks happens owed) true limit now a (n, v)
        → SaysFarewell asks (owed v) n m → RunsTo {T = Unit {0}} (Err fault) true limit a (m, v)
    runs_failed fault limit now a n m v goes says = (
      record {
        deeds = goes.1.deeds;
        farewells = says.calls;
        asked = joined (calls_in goes.1.deeds) says.calls a.0 n m goes.1.done.0 says.made;
        does = goes.1.done.1;
        made = acts_happens asks happens owed unchanged more true goes.1.deeds a (n, v) goes.1.done;
        last = says.are;
        none = λ is. absurd (false≢true (sym is));
      },
      ends_most limit (ends_in (done_in goes.1.deeds)) now (subst (λ (n : ℕ). Leaves limit n now) (sym goes.1.ends) goes.2),
    )

  pub asked_more : (count : ℕ) (call : Called) (before now : Option ℕ) (stopped : Bool) (a b c d e : N) (v w : V) → Asked asks count a b → asks (call ∷ []) b c
      → Quietly asks c d → Goes (Acts asks happens owed) stopped before now (d, v) (e, w) → Asked asks (count + 1) a e
  asked_more count call before now stopped a b c d e v w so_far waited quiet goes =
      let rest = quiet.calls ++ calls_in goes.1.deeds in
      record {
        calls = so_far.calls ++ (call ∷ rest);
        made = joined so_far.calls (call ∷ rest) a b e so_far.made
            (joined (call ∷ []) rest b c e waited (joined quiet.calls (calls_in goes.1.deeds) c d e quiet.made goes.1.done.0));
        size = let sum = length-append so_far.calls (call ∷ rest) in let size = so_far.size in omega (arith, sum, size);
      }
