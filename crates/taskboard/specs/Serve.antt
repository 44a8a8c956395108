-- The serving of a file: what it comes to, its limit, and which faults come of it.
use Rattle.std.specs.Prelude.{◌≡◌, ◌⊎◌, ◌++◌, ℕ, ◌*◌, Bool, true, List, Option, Some, None, IsSome, Result, Ok, Err, length}
use Rattle.sqlite.specs.Files.{file_state}
use Rattle.sqlite.specs.Held.{Held}
use Rattle.sqlite.specs.State.{HasCleanDisk}
use Rattle.sqlite_disk.specs.declared.Disk.{Ghosts as DiskGhosts}
use Rattle.sqlite_disk.specs.declared.Files.{Files}
use Rattle.sqlite_store.specs.FileStore.{view, state as store_state}
use Rattle.sqlite_store.specs.declared.store.FileStore.{FileStore}
use Rattle.sqlite_trees.specs.View.{IsClean}
use Rattle.sqlite_wal.specs.Files.{outcomes}
use Rattle.sqlite_wal.specs.Reads.{AreClean}
use Rattle.sqlite_wal.specs.Recovery.{Image}
use Rattle.taskboard.specs.Page.{IsPageOf}
use Rattle.taskboard.specs.Running.{IsRun}
use Rattle.tb_calls.specs.declared.keep.Keep.{Ghosts}
use Rattle.tb_command_line.specs.declared.order.Connections.{Connections}
use Rattle.tb_command_line.specs.declared.order.Connections.TheVariants.{UpTo, Forever}
use Rattle.tb_command_line.specs.declared.order.ServeOrder.{ServeOrder}
use Rattle.tb_event_loop.specs.Deeds.{Deed, DoesTo, calls_in, done_in}
use Rattle.tb_event_loop.specs.Done.{Done}
use Rattle.tb_event_loop.specs.Ending.{has_stopped}
use Rattle.tb_event_loop.specs.Serving.{IsCutOff}
use Rattle.tb_event_loop.specs.Sockets.{Called}
use Rattle.tb_event_loop.specs.declared.fault.LoopFault.{LoopFault}
use Rattle.tb_event_loop.specs.declared.fault.LoopFault.TheVariants as ending
use Rattle.tb_files.specs.Failed.{IsUnopened}
use Rattle.tb_files.specs.File.{BeginsSession, IsBegun, IsFoundIn, IsSaved, IsUnsaved}
use Rattle.tb_files.specs.GivenUp.{IsGivenUp}
use Rattle.tb_keeper.specs.declared.sql_keep.SqlKeep.{SqlKeep}
use Rattle.tb_orders.specs.Faults.{is_of_opening}
use Rattle.tb_serve.specs.Server.{talk_at}
use Rattle.tb_program.specs.declared.fault.Fault.{Fault}
use Rattle.tb_program.specs.declared.fault.Fault.TheVariants.{Memory, NoListen, NoPage, Store}
use Rattle.tb_rooms.specs.declared.bucket.Rate.{Rate}
use Rattle.tb_headline.specs.Files.{RunsTo, ServerRun}
use Rattle.tb_server.specs.Serves.{Serves, at_places}
use Rattle.tb_site.specs.declared.site.Site.{Site}
use Rattle.tb_serve.specs.Turns.{Talk, silent}

abbrev pub is_of_serving : Fault → Bool
is_of_serving NoListen = true
is_of_serving NoPage = true
is_of_serving fault = is_of_opening fault

-- of the loop, as the program tells it
abbrev pub fault_of_loop : LoopFault → Fault
fault_of_loop ending.Memory = Memory
fault_of_loop ending.Moved = Store
fault_of_loop ending.Sockets = NoListen
fault_of_loop ending.Store = Store

-- what the loop ended for is so: of memory it never ends
abbrev pub IsCause : Type 0 → Type 0 → Type 0 → LoopFault → Type 0
IsCause has_failed is_cut_off is_gone ending.Memory = ⊥
IsCause has_failed is_cut_off is_gone ending.Moved = is_gone
IsCause has_failed is_cut_off is_gone ending.Sockets = is_cut_off
IsCause has_failed is_cut_off is_gone ending.Store = has_failed

-- there was no port to listen on, or no memory
abbrev pub IsUnserved : Fault → Type 0
IsUnserved told = (told ≡ NoListen) ⊎ (told ≡ Memory)

-- the folder of the page that is named couldn't be read
abbrev pub IsUnpaged : Option (List ℕ) → Fault → Type 0
IsUnpaged folder told = IsSome folder × ((told ≡ NoPage) ⊎ (told ≡ Memory))

-- after how many connections the server ends, if it does
abbrev pub limit_of : Connections → Option ℕ
limit_of (UpTo count) = Some count
limit_of Forever = None

-- in bytes, of MiB and of KiB a second
abbrev pub rate_of : ℕ → ℕ → Rate
rate_of burst growth = record { burst = burst * 1048576; per_second = growth * 1024 }

module _ {D : Type 0} {d : DiskGhosts D} (g : Ghosts (SqlKeep (FileStore D d))) where
  -- a server of a file at a moment: its boards, its page, and what came of each connection and is still to be sent to it
  pub record ServerAt : Type 0 where
    pub keep : SqlKeep (FileStore D d)
    pub page : Site
    pub talks : List Talk

  abbrev pub server_at : SqlKeep (FileStore D d) → Site → List Talk → ServerAt
  server_at keep page talks = record { keep = keep; page = page; talks = talks }

  -- What was done to its connections in between decides what its boards hold, and what each connection was told, by `MakesTurns` of
  -- `tb_server`.
  abbrev pub ComesTo : Bool → List (ℕ × Done) → ServerAt → ServerAt → Type 0
  ComesTo stopped history old new =
      Serves {T = Unit {0}} (λ moments clock later_clock. Unit {0}) tt tt
      old.page new.page stopped history old.talks new.talks
      (g.is_honest old.keep) (g.is_honest new.keep)
      (g.holds old.keep) (g.after_stop old.keep) (g.holds new.keep) (g.after_stop new.keep)

  abbrev pub owed_at : ServerAt → ℕ → List ℕ
  owed_at server place = (talk_at server.talks place).out

-- `asks` says that the sockets were asked these calls and no others.
module _ {D : Type 0} {d : DiskGhosts D} (g : Ghosts (SqlKeep (FileStore D d)))
    (asks : List Called → Type 0) where
  -- A server of a desk, with the page that the order names, ran and ended so. Some deeds were done one after the other, from connections
  -- that were silent at first, and farewells after them where the store failed. What came of a socket was done to the server as it was
  -- then, and what was written to one is a prefix of what the server owed there and then. As many connections ended as the order says,
  -- where it ended well.
  pub record IsServedBy (order : ServeOrder) (end : Result (Unit {0}) LoopFault)
      (old new : SqlKeep (FileStore D d)) : Type 0 where
    pub site : Site
    pub page : IsPageOf order.page site
    pub kept : Site
    pub talks : List Talk
    pub later : List Talk
    pub begin : (c : ℕ) → talk_at talks c ≡ silent
    pub deeds : List Deed
    pub farewells : List Called
    pub asked : asks (calls_in deeds ++ farewells)
    pub run : IsRun g {C = Unit {0}} {E = Unit {0}} (λ moments clock later_clock. Unit {0}) tt
        site kept talks later (limit_of order.connections) end (done_in deeds) old new
        (file_state new.conn)
    pub does : DoesTo (ComesTo g) (owed_at g) (has_stopped end) deeds
        (server_at g old site talks) (server_at g new kept later)

  -- it ended well, and the file is saved then
  pub record IsServerRun (order : ServeOrder) (old : SqlKeep (FileStore D d)) : Type 0 where
    pub new : SqlKeep (FileStore D d)
    pub served : IsServedBy order (Ok tt) old new
    pub files : Files D
    pub saved : IsSaved new.conn files

  -- The loop ended by a fault: the keeper has failed, or the sockets didn't answer, or the file was gone. The session was given up, but
  -- where the file was gone.
  pub record IsServerCut (is_gone : Type 0) (order : ServeOrder) (told : Fault)
      (old : SqlKeep (FileStore D d)) : Type 0 where
    pub new : SqlKeep (FileStore D d)
    pub why : LoopFault
    pub served : IsServedBy order (Err why) old new
    pub is_told : told ≡ fault_of_loop why
    pub cause : IsCause (g.has_failed new ≡ true)
        (IsCutOff {N = Unit {0}} (λ calls before after. asks calls) tt tt) is_gone why
    pub left : (why ≡ ending.Moved) ⊎ ((last : FileStore D d) × IsGivenUp new.conn last)

  -- it ended well, and the file couldn't be saved then
  pub record IsServerUnsaved (order : ServeOrder) (told : Fault) (old : SqlKeep (FileStore D d)) : Type 0 where
    pub new : SqlKeep (FileStore D d)
    pub served : IsServedBy order (Ok tt) old new
    pub is_told : told ≡ Store
    pub unsaved : IsUnsaved new.conn

-- what a server that ended by a fault has done
abbrev pub IsServerEnd : {D : Type 0} {d : DiskGhosts D} → Ghosts (SqlKeep (FileStore D d)) → (List Called → Type 0) → Type 0
    → ServeOrder → Fault → SqlKeep (FileStore D d) → Type 0
IsServerEnd g asks is_gone order told old =
    IsServerCut g asks is_gone order told old ⊎ IsServerUnsaved g asks order told old

-- That the system did what the calls among the deeds say isn't proved of the machine: `MioSockets` says nothing of it, and is to be read.
abbrev pub asks_machine : List Called → Type 0
asks_machine calls = Unit {0}

-- Nobody was served, since the port wasn't to be had or there was no memory; or a server ended so.
abbrev pub IsServerLeft : {D : Type 0} {d : DiskGhosts D} → Ghosts (SqlKeep (FileStore D d)) → ServeOrder → Fault
    → SqlKeep (FileStore D d) → Type 0
IsServerLeft g order told old =
    IsUnserved told ⊎ IsServerEnd g asks_machine (Unit {0}) order told old

module _ {D : Type 0} {d : DiskGhosts D} (g : Ghosts (SqlKeep (FileStore D d)))
    (start : Image) where
  -- What a server that ended by a fault has done: its page couldn't be read; or no session began over the file; or one did.
  abbrev pub IsServerFailed : ServeOrder → Fault → Type 0
  IsServerFailed order told = IsUnpaged order.page told
      ⊎ (IsUnopened g start told ⊎ BeginsSession g start (IsServerLeft g order told))

module _ {D : Type 0} {d : DiskGhosts D} (g : Ghosts (SqlKeep (FileStore D d))) where
  -- as a run of the headline of files
  abbrev pub run_of : {order : ServeOrder} {end : Result (Unit {0}) LoopFault} {old new : SqlKeep (FileStore D d)}
      → IsServedBy g asks_machine order end old new → ServerRun
  run_of {end = end} served = record {
    site = served.site;
    done = at_places (length served.talks) served.run.serves.timed;
    talks = talk_at served.talks;
    later = talk_at served.later;
    stopped = has_stopped end;
  }

  -- What is left of a server that was given up is what the next run finds: from the bytes that it began with its run leads to whatever bytes a
  -- stop may leave of its store, where the disk returned what was written from the beginning to the end.
  abbrev pub LeadsOn : Type 0
  LeadsOn = (order : ServeOrder) (end : Result (Unit {0}) LoopFault) (start next : Image)
      (found : Held (FileStore D d)) (old new : SqlKeep (FileStore D d)) (last : FileStore D d)
      → IsFoundIn start found → IsBegun g found old → (served : IsServedBy g asks_machine order end old new)
      → IsGivenUp new.conn last → HasCleanDisk (file_state found) → IsClean (view last)
      → (store_state last).may_leave next → RunsTo start (run_of served) next

  -- The same of a server that ended well and was saved: its run leads to whatever bytes a stop may leave of the two files then, where the disk
  -- returned what was written to the end.
  abbrev pub EndsOn : Type 0
  EndsOn = (order : ServeOrder) (start next : Image)
      (found : Held (FileStore D d)) (old new : SqlKeep (FileStore D d)) (files : Files D)
      → IsFoundIn start found → IsBegun g found old → (served : IsServedBy g asks_machine order (Ok tt) old new)
      → IsSaved new.conn files → HasCleanDisk (file_state found) → AreClean d files.log files.db
      → outcomes d files.log files.db next → RunsTo start (run_of served) next
