-- What the loop promises of a server over a desk is a session of the headline.
use Rattle.std.proofs.Common.{◌≡◌, ℕ, Bool, true, false, List, [], Option, Result, refl, subst}
use Rattle.std.specs.Prelude.{◌≢◌}
use Rattle.sqlite.specs.Files.{file_state}
use Rattle.sqlite.specs.State.{State as Database}
use Rattle.sqlite_disk.specs.declared.Disk.{Ghosts as DiskGhosts}
use Rattle.sqlite_store.specs.declared.store.FileStore.{FileStore}
use Rattle.taskboard.specs.Running.{IsRun, IsServed}
use Rattle.taskboard.specs.Page.{IsPageOf}
use Rattle.taskboard.specs.Serve.{ComesTo, IsCause, IsServedBy, IsServerEnd, IsServerRun, ServerAt, limit_of, owed_at}
use Rattle.tb_calls.specs.Call.{State}
use Rattle.tb_calls.specs.declared.keep.Keep.{Ghosts}
use Rattle.taskboard.proofs.Seeing.{does_to_seen}
use Rattle.tb_command_line.specs.declared.order.ServeOrder.{ServeOrder}
use Rattle.tb_event_loop.specs.Deeds.{DoesTo, done_in}
use Rattle.tb_event_loop.specs.Done.{Done, ends_in}
use Rattle.tb_event_loop.specs.Ending.{has_stopped}
use Rattle.tb_event_loop.specs.History.{EndsAll}
use Rattle.tb_event_loop.specs.Serving.{Runs}
use Rattle.tb_event_loop.specs.Sockets.{Called}
use Rattle.tb_event_loop.specs.declared.fault.LoopFault.{LoopFault}
use Rattle.tb_event_loop.specs.declared.fault.LoopFault.TheVariants as loop
use Rattle.tb_headline.specs.Headline.{IsCut, IsPlayed, WhileHonest}
use Rattle.tb_keeper.specs.declared.sql_keep.SqlKeep.{SqlKeep}
use Rattle.tb_program.specs.declared.fault.Fault.{Fault}
use Rattle.tb_serve.specs.Server.{IsStopped, Plays, talk_at}
use Rattle.tb_serve.specs.Turns.{Happening, Talk, silent}
use Rattle.tb_server.specs.Serves.{Makes, Serves, StopsAtLast}
use Rattle.tb_site.specs.declared.site.Site.{Site}

-- the laws of sessions, of a desk that stands so and its database
abbrev pub PlaysSession : Bool → (State → Type 0) → (State → Type 0) → Database → Type 0
PlaysSession is_honest now stops d = (site : Site) (s : State) (done : List (ℕ × Happening (Option ℕ))) (talks later : ℕ → Talk)
    → (is_honest ≡ true → Plays site s done talks later now stops) → WhileHonest d (IsPlayed site s done talks later now stops d)

abbrev pub CutsSession : Bool → (State → Type 0) → (State → Type 0) → Database → Type 0
CutsSession is_honest now stops d = (site : Site) (s : State) (done : List (ℕ × Happening (Option ℕ))) (talks later : ℕ → Talk)
    → (is_honest ≡ true → IsStopped site s done talks later now stops) → WhileHonest d (IsCut site s done talks later now stops d)

stopped_of : (site : Site) (s : State) (done : List (ℕ × Happening (Option ℕ))) (talks later : ℕ → Talk) (now stops : State → Type 0)
    → StopsAtLast site s done talks later now stops → IsStopped site s done talks later now stops
stopped_of site s done talks later now stops is = record {
  ks = is.ks;
  end = is.end;
  middle = is.middle;
  place = is.place;
  last = is.last;
  rest = [];
  done_is = is.done_is;
  run = is.run;
  stopped = is.stopped;
  others = is.others;
}

session_of : (stopped : Bool) (site : Site) (s : State) (done : List (ℕ × Happening (Option ℕ))) (talks later : ℕ → Talk)
    (is_honest : Bool) (now stops : State → Type 0) (d : Database)
    → (is_honest ≡ true → Makes site stopped s done talks later now stops)
    → PlaysSession is_honest now stops d → CutsSession is_honest now stops d
    → WhileHonest d (IsServed stopped site s done talks later now stops d)
session_of false site s done talks later is_honest now stops d made plays cuts = plays site s done talks later made
session_of true site s done talks later is_honest now stops d made plays cuts =
    cuts site s done talks later (λ honest. stopped_of site s done talks later now stops (made honest))

module _ {S : Type 0} (g : Ghosts (SqlKeep S)) where
  -- the laws are of the desk that is handed back, which is the server's
  pub run_of : {C E : Type 0} (gives : List (Option ℕ) → C → C → Type 0) (clock later_clock : C) (site kept : Site) (talks later : List Talk)
      (limit : Option ℕ) (result : Result E LoopFault) (history : List (ℕ × Done)) (base : SqlKeep S → Database) (old new back : SqlKeep S)
      → back ≡ new
      → Serves gives clock later_clock site kept (has_stopped result) history talks later (g.is_honest old) (g.is_honest new)
      (g.holds old) (g.after_stop old) (g.holds new) (g.after_stop new)
      → EndsAll result limit (ends_in history)
      → PlaysSession (g.is_honest back) (g.holds back) (g.after_stop back) (base back)
      → CutsSession (g.is_honest back) (g.holds back) (g.after_stop back) (base back)
      → IsRun g gives clock site kept talks later limit result history old new (base new)
  run_of gives clock later_clock site kept talks later limit result history base old new back same serves ended plays cuts = record {
    later_clock = later_clock;
    serves = serves;
    ended = ended;
    session = λ s at. session_of (has_stopped result) site s _ (talk_at talks) (talk_at later) (g.is_honest new) (g.holds new) (g.after_stop new) (base new)
        (λ honest. serves.run honest s at.held at.only)
        (subst (λ (x : SqlKeep S). PlaysSession (g.is_honest x) (g.holds x) (g.after_stop x) (base x)) same plays)
        (subst (λ (x : SqlKeep S). CutsSession (g.is_honest x) (g.holds x) (g.after_stop x) (base x)) same cuts);
  }

  -- a run of which nothing is known of the clock
  pub of_any_clock : {C : Type 0} (gives : List (Option ℕ) → C → C → Type 0) (clock : C) (site kept : Site) (talks later : List Talk)
      (limit wanted : Option ℕ) (end : Result (Unit {0}) LoopFault) (history : List (ℕ × Done)) (old new : SqlKeep S) (d : Database)
      → limit ≡ wanted → IsRun g gives clock site kept talks later limit end history old new d
      → IsRun g {C = Unit {0}} {E = Unit {0}} (λ moments clock later_clock. Unit {0}) tt site kept talks later wanted end history old new d
  of_any_clock gives clock site kept talks later limit wanted end history old new d same run = record {
    later_clock = tt;
    serves = record {
      page = run.serves.page;
      places = run.serves.places;
      calls = run.serves.calls;
      timed = run.serves.timed;
      fits = run.serves.fits;
      asked = tt;
      honest = run.serves.honest;
      run = run.serves.run;
    };
    ended = subst (λ (most : Option ℕ). EndsAll end most (ends_in history)) same run.ended;
    session = run.session;
  }

-- what was done to a server over sockets, as it is said of the file's server
pub does_of : {D : Type 0} {d : DiskGhosts D} (g : Ghosts (SqlKeep (FileStore D d))) {N V : Type 0} {asks : List Called → N → N → Type 0}
    {happens : Bool → List (ℕ × Done) → V → V → Type 0} {owed : V → ℕ → List ℕ} (stopped : Bool) {old new : N × V} (runs : Runs asks happens owed stopped old new)
    (see : V → ServerAt g) → ((halted : Bool) (history : List (ℕ × Done)) (a b : V) → happens halted history a b → ComesTo g halted history (see a) (see b))
    → ((v : V) (place : ℕ) → owed_at g (see v) place ≡ owed v place)
    → DoesTo (ComesTo g) (owed_at g) stopped runs.deeds (see old.1) (see new.1)
does_of g {happens = happens} {owed = owed} stopped {old = old} {new = new} runs see seen same =
    does_to_seen happens owed see (ComesTo g) (owed_at g) seen same stopped runs.deeds old.1 new.1 runs.does

-- a run of a server is what the headline and the file know of it
pub served_by : {D C N V : Type 0} {d : DiskGhosts D} (g : Ghosts (SqlKeep (FileStore D d))) {asks : List Called → N → N → Type 0}
    {happens : Bool → List (ℕ × Done) → V → V → Type 0} {owed : V → ℕ → List ℕ} (order : ServeOrder) (end : Result (Unit {0}) LoopFault)
    (gives : List (Option ℕ) → C → C → Type 0) (clock : C) (limit : Option ℕ) (before after : N) (old new : V) (see : V → ServerAt g)
    (runs : Runs asks happens owed (has_stopped end) (before, old) (after, new))
    → ((halted : Bool) (history : List (ℕ × Done)) (a b : V) → happens halted history a b → ComesTo g halted history (see a) (see b))
    → ((v : V) (place : ℕ) → owed_at g (see v) place ≡ owed v place)
    → IsPageOf order.page (see old).page → ((c : ℕ) → talk_at (see old).talks c ≡ silent) → limit ≡ limit_of order.connections
    → IsRun g gives clock (see old).page (see new).page (see old).talks (see new).talks limit end (done_in runs.deeds) (see old).keep (see new).keep (file_state (see new).keep.conn)
    → IsServedBy g (λ calls. asks calls before after) order end (see old).keep (see new).keep
served_by g order end gives clock limit before after old new see runs seen same page begin ends run = record {
  site = (see old).page;
  page = page;
  kept = (see new).page;
  talks = (see old).talks;
  later = (see new).talks;
  begin = begin;
  deeds = runs.deeds;
  farewells = runs.farewells;
  asked = runs.asked;
  run = of_any_clock g gives clock (see old).page (see new).page (see old).talks (see new).talks limit (limit_of order.connections) end (done_in runs.deeds)
      (see old).keep (see new).keep (file_state (see new).keep.conn) ends run;
  does = does_of g (has_stopped end) runs see seen same;
}

-- the loop ended for its sockets, its file or its store, and that is so
pub cause_of : {F C G : Type 0} (why : LoopFault) → why ≢ loop.Memory → (why ≡ loop.Sockets → C) → (why ≡ loop.Moved → G) → (why ≡ loop.Store → F) → IsCause F C G why
cause_of loop.Memory other sockets moved store = absurd (other refl)
cause_of loop.Moved other sockets moved store = moved refl
cause_of loop.Sockets other sockets moved store = sockets refl
cause_of loop.Store other sockets moved store = store refl

-- what is said of a desk is said of what equals it
module _ {D : Type 0} {d : DiskGhosts D} (g : Ghosts (SqlKeep (FileStore D d))) (asks : List Called → Type 0) (order : ServeOrder)
    (keep other : SqlKeep (FileStore D d)) (same : keep ≡ other) where
  pub run_as : IsServerRun g asks order keep → IsServerRun g asks order other
  run_as is = subst (λ (k : SqlKeep (FileStore D d)). IsServerRun g asks order k) same is

  pub end_as : (is_gone : Type 0) (told : Fault) → IsServerEnd g asks is_gone order told keep → IsServerEnd g asks is_gone order told other
  end_as is_gone told is = subst (λ (k : SqlKeep (FileStore D d)). IsServerEnd g asks is_gone order told k) same is
