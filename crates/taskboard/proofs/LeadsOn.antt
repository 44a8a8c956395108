-- What is left of a server that was given up is what the next run begins with.
use Rattle.std.proofs.Common.{◌∙◌, ◌≡◌, ℕ, Bool, true, false, true≢false, List, [], ◌∷◌, Option, Result, length, ap, arith, inl, refl, subst, sym}
use Rattle.std.proofs.Math.Logic.{∥∥₁_map}
use Rattle.std.proofs.lemmas.List.{append-nil}
use Rattle.sqlite.proofs.Theorems.{opens_again}
use Rattle.sqlite.specs.Effect.{Database as Contents}
use Rattle.sqlite.specs.Files.{HoldsDatabase, file_state}
use Rattle.sqlite.specs.Held.{Held}
use Rattle.sqlite.specs.State.{HasCleanDisk, State as Database}
use Rattle.sqlite_disk.specs.declared.Disk.{Ghosts as DiskGhosts}
use Rattle.sqlite_store.specs.Laws.{stays_at}
use Rattle.sqlite_store.specs.declared.store.FileStore.{FileStore}
use Rattle.sqlite_trees.specs.Tree.{Trees}
use Rattle.sqlite_wal.proofs.LogLemmas.{SeenMayStay}
use Rattle.sqlite_wal.specs.Recovery.{Image}
use Rattle.taskboard.specs.Running.{IsServed}
use Rattle.taskboard.specs.Serve.{EndsOn, LeadsOn, run_of}
use Rattle.tb_calls.specs.Call.{State}
use Rattle.tb_calls.specs.Leaving.{IsAfterSome}
use Rattle.tb_calls.specs.declared.call.Call.{Call}
use Rattle.tb_calls.specs.declared.keep.Keep.{Ghosts}
use Rattle.tb_event_loop.specs.Ending.{has_stopped}
use Rattle.tb_files.specs.File.{IsFoundIn}
use Rattle.tb_headline.specs.Files.{HoldsState, IsLeftBy, IsServing, ServerRun}
use Rattle.tb_headline.specs.Headline.{IsFileOf, calls_handled}
use Rattle.tb_keeper.specs.declared.sql_keep.SqlKeep.{SqlKeep}
use Rattle.tb_serve.specs.Server.{calls_at}
use Rattle.tb_serve.specs.Turns.{Happening, Talk}
use Rattle.tb_site.specs.declared.site.Site.{Site}

abbrev run_with : Bool → Site → List (ℕ × Happening (Option ℕ)) → (ℕ → Talk) → (ℕ → Talk) → ServerRun
run_with stopped site done talks later = record { site = site; done = done; talks = talks; later = later; stopped = stopped }

-- a session of the headline of which these bytes are left
abbrev Leads : State → ServerRun → Image → Type 0
Leads s x next = (is : IsServing s x) × (t : State) × HoldsState t next × IsLeftBy s x is t

leads : (stopped : Bool) (site : Site) (s : State) (done : List (ℕ × Happening (Option ℕ))) (talks later : ℕ → Talk) (now may_leave : State → Type 0) (d : Database)
    → IsServed stopped site s done talks later now may_leave d → (next : Image) (db : Trees) → d.may_leave db → HoldsDatabase next db
    → Leads s (run_with stopped site done talks later) next
leads false site s done talks later now may_leave d played next db left held =
    let calls = calls_handled played.steps in
    let (t, rows, some) = played.leaves db left in (
      record {
        steps = played.steps;
        middle = later;
        rest = [];
        begun = [];
        done_is = append-nil _ ∙ played.done_is;
        run = played.run;
        whole = λ is. (refl, refl, refl);
      },
      t,
      record { trees = db; held = held; rows = inl rows },
      subst (λ (cs : List Call). IsAfterSome s cs (length calls) t) (sym (append-nil calls)) some,
    )
leads true site s done talks later now may_leave d cut next db left held =
    let (t, rows, some) = cut.leaves db left in (
      record {
        steps = cut.steps;
        middle = cut.middle;
        rest = (cut.place, cut.last) ∷ cut.rest;
        begun = calls_at cut.failed.0;
        done_is = cut.done_is;
        run = cut.run;
        whole = λ is. absurd (true≢false is);
      },
      t,
      record { trees = db; held = held; rows = inl rows },
      some,
    )

module _ {D : Type 0} {d : DiskGhosts D} (g : Ghosts (SqlKeep (FileStore D d))) where
  -- what a connection found is the rows of the state that the bytes hold
  found_rows : (start : Image) (found : Held (FileStore D d)) → IsFoundIn start found → HasCleanDisk (file_state found) → (s : State) → HoldsState s start
      → IsFileOf s (file_state found).now.trees
  found_rows start found is clean s held =
      let same : (file_state found).now.trees ≡ held.trees =
      ap (λ (x : Contents). x.trees) (is.rests clean).clean ∙ (is.finds clean).holds held.trees held.held in
      subst (IsFileOf s) (sym same) held.rows

  pub leads_on : LeadsOn g
  leads_on order end start next found old new last is begun served left clean_then clean may s held =
      let at = begun.at clean_then s (found_rows start found is clean_then s held) in
      let clean_new : HasCleanDisk (file_state new.conn) = omega (arith, left.quiet.clean, clean) in
      ∥∥₁_map (opens_again last (left.numbered clean) (left.sound clean) next may) (λ opened.
      let r : Leads s (run_of g served) next =
      leads (has_stopped end) served.site s _ _ _ (g.holds new) (g.after_stop new) (file_state new.conn) (served.run.session s at clean_new) next opened.0
      (left.quiet.outcomes opened.0 opened.1) opened.2 in
      r)

  pub ends_on : SeenMayStay d → EndsOn g
  ends_on stays order start next found old new files is begun served saved clean_then clean may s held =
      let at = begun.at clean_then s (found_rows start found is clean_then s held) in
      let copied = saved clean in
      ∥∥₁_map (copied.left next may).both (λ holds.
      let r : Leads s (run_of g served) next =
      leads false served.site s _ _ _ (g.holds new) (g.after_stop new) (file_state new.conn) (served.run.session s at copied.was_clean) next
      (file_state new.conn).committed.trees (stays_at new.conn.store stays copied.was_open) holds in
      r)
