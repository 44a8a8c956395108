-- What a loop makes of a server over a desk, however it ends.
use Rattle.std.specs.Prelude.{ℕ, Bool, true, false, List, length, Option, Result}
use Rattle.sqlite.specs.State.{State as Database}
use Rattle.tb_calls.specs.Call.{State}
use Rattle.tb_calls.specs.declared.keep.Keep.{Ghosts}
use Rattle.tb_event_loop.specs.Done.{Done, ends_in}
use Rattle.tb_event_loop.specs.Ending.{has_stopped}
use Rattle.tb_event_loop.specs.History.{EndsAll}
use Rattle.tb_event_loop.specs.Laps.{IsMadeOfLaps}
use Rattle.tb_event_loop.specs.Sockets.{Called}
use Rattle.tb_event_loop.specs.declared.event_loop.EventLoop.{EventLoop}
use Rattle.tb_event_loop.specs.declared.fault.LoopFault.{LoopFault}
use Rattle.tb_event_loop.specs.declared.service.Service.{Ghosts as Service}
use Rattle.tb_event_loop.specs.declared.sockets.Told.{Told}
use Rattle.tb_headline.specs.Headline.{IsAt, IsCut, IsPlayed, WhileHonest}
use Rattle.tb_keeper.specs.declared.sql_keep.SqlKeep.{SqlKeep}
use Rattle.tb_serve.specs.Server.{talk_at}
use Rattle.tb_serve.specs.Turns.{Happening, Talk}
use Rattle.tb_server.specs.Serves.{Serves, at_places}
use Rattle.tb_site.specs.declared.site.Site.{Site}

-- a session of the headline that serves connections: to its end, or up to the turn in which the store failed
abbrev pub IsServed : Bool → Site → State → List (ℕ × Happening (Option ℕ)) → (ℕ → Talk) → (ℕ → Talk)
    → (State → Type 0) → (State → Type 0) → Database → Type 0
IsServed false site s done talks later now may_leave d = IsPlayed site s done talks later now may_leave d
IsServed true site s done talks later now may_leave d = IsCut site s done talks later now may_leave d

-- The loop went round by round, with a turn for each place, and then it ended so.
abbrev pub HasLaps : {N V P E : Type 0} → (List Called → N → N → Type 0) → (N → List Told)
    → (List Bool → P → P → Type 0) → Service V
    → Result E LoopFault → EventLoop → N × V × P → N × V × P → Type 0
HasLaps asks last_told looks g result before old new =
    IsMadeOfLaps asks last_told looks g.follows g.gives_file g.held_at g.owed_at g.wants result before old new

module _ {S : Type 0} (g : Ghosts (SqlKeep S)) where
  -- This was done to the connections of a server, each turn at the moment that the clock gave for it. From the state at which the desk
  -- stood it is a session of the headline, and the desk at the end is what that session left. As many connections ended as the loop says.
  pub record IsRun {C E : Type 0} (gives : List (Option ℕ) → C → C → Type 0) (clock : C)
      (site kept : Site) (talks later : List Talk) (limit : Option ℕ) (result : Result E LoopFault)
      (history : List (ℕ × Done)) (old new : SqlKeep S) (d : Database) : Type 0 where
    pub later_clock : C
    pub serves : Serves gives clock later_clock site kept (has_stopped result) history talks later
        (g.is_honest old) (g.is_honest new)
        (g.holds old) (g.after_stop old) (g.holds new) (g.after_stop new)
    pub ended : EndsAll result limit (ends_in history)
    pub session : (s : State) → IsAt s (g.holds old) (g.after_stop old)
        → WhileHonest d (IsServed (has_stopped result) site s (at_places (length talks) serves.timed)
        (talk_at talks) (talk_at later) (g.holds new) (g.after_stop new) d)
