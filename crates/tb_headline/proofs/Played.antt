-- A session that serves connections: what was handled stands, in the order in which it was handled.
use Rattle.std.proofs.Common.{◌≡◌, ℕ, ◌+◌, Bool, List, ◌++◌, length, take, Option, Result, Ok, Err, arith, sym, ap, ◌∙◌, subst}
use Rattle.std.specs.Prelude.{OnErr, OnOk}
use Rattle.sqlite.specs.State.{HasCleanDisk, State as Database}
use Rattle.tb_board.specs.declared.board.Board.{Board}
use Rattle.tb_calls.specs.declared.call.Call.{Call}
use Rattle.tb_calls.specs.Call.{State}
use Rattle.tb_calls.specs.Leaving.{StandsAfter}
use Rattle.tb_desk.proofs.Resumed.{take_whole}
use Rattle.tb_headline.proofs.Left.{leaves}
use Rattle.tb_headline.specs.Headline.{IsCut, IsPlayed, calls_handled}
use Rattle.tb_keeper.specs.declared.people_at_hand.People.{People}
use Rattle.tb_keeper.specs.Holds.{Holds}
use Rattle.tb_lookup.specs.Stored.{MayLeave}
use Rattle.tb_serve.proofs.Following.{stands_behind}
use Rattle.tb_serve.proofs.TakingTurns.{any_turns}
use Rattle.tb_serve.specs.Server.{IsStopped, Plays, Stops, calls_at, server}
use Rattle.tb_serve.specs.Telling.{StandsAt, after}
use Rattle.tb_serve.specs.Turns.{Happening, Run, Talk}
use Rattle.tb_site.specs.declared.site.Site.{Site}

-- where all calls were answered
all_stand : (s : State) (calls : List Call) (now stops : State → Type 0)
    → StandsAt (after s calls) now stops → StandsAfter s calls (length calls) now stops
all_stand s calls now stops stood =
    let whole : after s calls ≡ after s (take (length calls) calls) = ap (after s) (sym (take_whole calls)) in
    record {
      held = (after s calls, stood.held, (length calls, omega arith, omega arith, whole));
      stops = λ t left. (length calls, omega arith, omega arith, stood.stops t left ∙ whole);
    }

-- where one more may have acted
one_more : (s : State) (calls more : List Call) (now stops : State → Type 0)
    → StandsAfter (after s calls) more 0 now stops → StandsAfter s (calls ++ more) (length calls) now stops
one_more s calls more now stops stood =
    let none : length calls + 0 ≡ length calls = omega arith in
    subst (λ (n : ℕ). StandsAfter s (calls ++ more) n now stops) none (stands_behind s calls more 0 now stops stood)

pub played : (site : Site) (failed : Bool) (people : People) (boards : ℕ) (es : List (ℕ × Board)) (d : Database) → HasCleanDisk d
    → (s : State) (done : List (ℕ × Happening (Option ℕ))) (talks later : ℕ → Talk)
    → Plays site s done talks later (Holds failed people boards es d) (MayLeave d)
    → IsPlayed site s done talks later (Holds failed people boards es d) (MayLeave d) d
played site failed people boards es d clean s done talks later (steps, end, done_is, run, stands) =
    let now = Holds failed people boards es d in
    let turns = any_turns site s talks steps end later run in
    let calls = calls_handled steps in
    let here : StandsAt (after s calls) now (MayLeave d) =
    subst (λ (u : State). StandsAt u now (MayLeave d)) turns.0 stands in
    record {
      steps = steps;
      done_is = done_is;
      run = subst (λ (u : State). Run (server site) s talks steps u later) turns.0 run;
      served = turns.1;
      at = record { held = here.held; only = here.stops };
      leaves = leaves failed people boards es d clean s calls (length calls) (all_stand s calls now (MayLeave d) here);
    }

pub cut : (site : Site) (failed : Bool) (people : People) (boards : ℕ) (es : List (ℕ × Board)) (d : Database) → HasCleanDisk d
    → (s : State) (done : List (ℕ × Happening (Option ℕ))) (talks later : ℕ → Talk)
    → IsStopped site s done talks later (Holds failed people boards es d) (MayLeave d)
    → IsCut site s done talks later (Holds failed people boards es d) (MayLeave d) d
cut site failed people boards es d clean s done talks later is =
    let now = Holds failed people boards es d in
    let turns = any_turns site s talks is.ks is.end is.middle is.run in
    let calls = calls_handled is.ks in
    let last : Stops site (after s calls) is.last (is.middle is.place) (later is.place) now (MayLeave d) =
    subst (λ (u : State). Stops site u is.last (is.middle is.place) (later is.place) now (MayLeave d)) turns.0 is.stopped in
    record {
      steps = is.ks;
      middle = is.middle;
      place = is.place;
      last = is.last;
      rest = is.rest;
      done_is = is.done_is;
      run = subst (λ (u : State). Run (server site) s talks is.ks u is.middle) turns.0 is.run;
      served = turns.1;
      failed = last;
      others = is.others;
      leaves = leaves failed people boards es d clean s (calls ++ calls_at last.0) (length calls)
          (one_more s calls (calls_at last.0) now (MayLeave d) last.5);
    }

pub on_ok : {T E : Type 0} (r : Result T E) (X Y : Type 0) → (X → Y) → OnOk r X → OnOk r Y
on_ok (Ok x) X Y f is = f is
on_ok (Err e) X Y f is = tt

pub on_err : {T E : Type 0} (r : Result T E) (X Y : Type 0) → (X → Y) → OnErr r X → OnErr r Y
on_err (Ok x) X Y f is = tt
on_err (Err e) X Y f is = f is
