-- What a session over a file begins with and ends with. What a path leads to can't be named: the bytes that its file and log held can.
use Rattle.std.specs.Prelude.{◌≡◌, false, true}
use Rattle.sqlite.specs.Closing.{IsCopied}
use Rattle.sqlite.specs.Files.{FailsToClose, IsClosed, file_state}
use Rattle.sqlite.specs.Held.{Held}
use Rattle.sqlite.specs.Start.{FindsIn}
use Rattle.sqlite.specs.State.{HasCleanDisk}
use Rattle.sqlite.specs.declared.error.Error.{Error}
use Rattle.sqlite_disk.specs.declared.Disk.{Ghosts as DiskGhosts}
use Rattle.sqlite_disk.specs.declared.Files.{Files}
use Rattle.sqlite_store.specs.FileStore.{view}
use Rattle.sqlite_store.specs.declared.store.FileStore.{FileStore}
use Rattle.sqlite_trees.specs.View.{IsClean}
use Rattle.tb_calls.specs.declared.keep.Keep.{Ghosts}
use Rattle.tb_keeper.specs.declared.sql_keep.SqlKeep.{SqlKeep}
use Rattle.sqlite_wal.specs.Reads.{AreClean}
use Rattle.sqlite_wal.specs.Recovery.{Image}
use Rattle.tb_calls.specs.Call.{State}
use Rattle.tb_headline.specs.Headline.{IsAt, IsFileOf}
use Rattle.tb_sql.specs.Opening.{has_tables}
use Rattle.tb_sql_tables.specs.Failing.{IsAtRest}

module _ {D : Type 0} {d : DiskGhosts D} where
  -- A connection found these bytes: it is at rest, and has the database that they hold, if they hold one.
  pub record IsFoundIn (start : Image) (found : Held (FileStore D d)) : Type 0 where
    pub idle : found.in_transaction ≡ false
    pub rests : HasCleanDisk (file_state found) → IsAtRest (file_state found)
    pub finds : HasCleanDisk (file_state found) → FindsIn start (file_state found)

  -- where the disk returned what was written, the last commit is in the database file
  abbrev pub IsSaved : Held (FileStore D d) → Files D → Type 0
  IsSaved conn files = AreClean d files.log files.db → IsCopied conn files

  -- The copying failed: it left this store, and where the disk returned what was written, for this error, which the disk or the want of
  -- memory gave.
  pub record IsUnsaved (conn : Held (FileStore D d)) : Type 0 where
    pub left : FileStore D d
    pub error : Error
    pub closed : IsClosed conn left
    pub fails : IsClean (view left) → FailsToClose conn left error

module _ {D : Type 0} {d : DiskGhosts D} (g : Ghosts (SqlKeep (FileStore D d))) where
  -- a connection found the tables of a version, and where their rows are those of a state, the keeper over it is at that state
  pub record IsBegun (found : Held (FileStore D d)) (keep : SqlKeep (FileStore D d)) : Type 0 where
    pub ours : has_tables keep.found (file_state found).now.schema ≡ true
    pub at : HasCleanDisk (file_state found) → (s : State) → IsFileOf s (file_state found).now.trees
        → IsAt s (g.holds keep) (g.after_stop keep)

  -- in a session that began over what a connection found
  pub record InSession (found : Held (FileStore D d))
      (Does : SqlKeep (FileStore D d) → Type 0) : Type 0 where
    pub old : SqlKeep (FileStore D d)
    pub begun : IsBegun found old
    pub does : Does old

module _ {D : Type 0} {d : DiskGhosts D} (g : Ghosts (SqlKeep (FileStore D d)))
    (start : Image) where
  -- in one that began over what a connection found in these bytes
  abbrev pub BeginsSession : (SqlKeep (FileStore D d) → Type 0) → Type 0
  BeginsSession Does =
      (found : Held (FileStore D d)) × IsFoundIn start found × InSession g found Does

  -- a session from its beginning over a file of these bytes to what it leaves, saved
  pub record IsFileSession (old new : SqlKeep (FileStore D d)) : Type 0 where
    pub found : Held (FileStore D d)
    pub is_found : IsFoundIn start found
    pub begun : IsBegun g found old
    pub files : Files D
    pub saved : IsSaved new.conn files
