-- What is left of a file that was made.
use Rattle.std.proofs.Common.{◌≡◌, Bool, false, inl, subst, sym}
use Rattle.std.proofs.Math.Logic.{∥∥₁_map}
use Rattle.sqlite.specs.Closing.{IsCopied}
use Rattle.sqlite.specs.Effect.{Database as Contents}
use Rattle.sqlite.specs.Files.{file_state}
use Rattle.sqlite_disk.specs.declared.Disk.{Ghosts as DiskGhosts}
use Rattle.sqlite_disk.specs.declared.Files.{Files}
use Rattle.sqlite_store.specs.declared.store.FileStore.{FileStore}
use Rattle.sqlite_wal.specs.Files.{outcomes}
use Rattle.sqlite_wal.specs.Recovery.{Image}
use Rattle.tb_calls.specs.Call.{State}
use Rattle.tb_headline.specs.Files.{HoldsState}
use Rattle.tb_keeper.specs.Holds.{Holds, Kept}
use Rattle.tb_keeper.specs.declared.sql_keep.SqlKeep.{SqlKeep}
use Rattle.tb_sql_tables.specs.Content.{AreRows}

pub made_holds : {D : Type 0} {d : DiskGhosts D} (keep : SqlKeep (FileStore D d)) (files : Files D) (s : State) → keep.failed ≡ false
    → Holds keep.failed keep.people keep.boards keep.cache.entries (file_state keep.conn) s → IsCopied keep.conn files
    → (next : Image) → outcomes d files.log files.db next → ∥ HoldsState s next ∥₁
made_holds keep files s fine holds copied next may =
    let kept : Kept false keep.people keep.boards keep.cache.entries (file_state keep.conn) s =
    subst (λ (b : Bool). Kept b keep.people keep.boards keep.cache.entries (file_state keep.conn) s) fine (holds.kept copied.was_clean) in
    let stored = kept.0 in
    let seen = stored.stands.seen copied.was_clean copied.was_open in
    ∥∥₁_map (copied.left next may).both (λ held. let r : HoldsState s next = record {
      trees = (file_state keep.conn).committed.trees;
      held = held;
      rows = inl (record {
        content = stored.content;
        rows = stored.rows;
        stored = subst (λ (x : Contents). AreRows stored.content x.trees) (sym seen.1) seen.0.rows;
      });
    } in r)
