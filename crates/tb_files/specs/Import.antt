-- What an import into a file comes to.
use Rattle.std.specs.Prelude.{ℕ, List, Option, Ok}
use Rattle.sqlite_disk.specs.declared.Disk.{Ghosts as DiskGhosts}
use Rattle.sqlite_disk.specs.declared.Files.{Files}
use Rattle.sqlite_store.specs.declared.store.FileStore.{FileStore}
use Rattle.sqlite_wal.specs.Recovery.{Image}
use Rattle.tb_calls.specs.declared.keep.Keep.{Ghosts}
use Rattle.tb_keeper.specs.declared.sql_keep.SqlKeep.{SqlKeep}
use Rattle.tb_calls.specs.Call.{State}
use Rattle.tb_calls.specs.Leaving.{Only}
use Rattle.tb_command_line.specs.declared.order.ImportOrder.{ImportOrder}
use Rattle.tb_files.specs.File.{BeginsSession, IsSaved}
use Rattle.tb_orders.specs.Input.{IsMade}
use Rattle.tb_orders.specs.Running.{IsRunOf}
use Rattle.tb_orders.specs.declared.ending.Ending.{Ending}

module _ {D : Type 0} {d : DiskGhosts D} (g : Ghosts (SqlKeep (FileStore D d))) where
  -- the call of an import is made in a session, which is saved then
  pub record IsImportedOver (given : ℕ → Type 0) (order : ImportOrder) (input : Option (List ℕ))
      (before after : Option (List ℕ)) (ending : Ending) (old : SqlKeep (FileStore D d)) : Type 0 where
    pub new : SqlKeep (FileStore D d)
    pub files : Files D
    pub saved : IsSaved new.conn files
    pub made : (s : State) → g.holds old s
        → IsMade given order input s (g.is_honest new) (g.holds new) before after ending

  -- the calls of an import in parts are
  pub record IsImportedInPartsOver (given : ℕ → Type 0) (order : ImportOrder)
      (input : Option (List ℕ)) (before after : Option (List ℕ)) (ending : Ending) (old : SqlKeep (FileStore D d)) : Type 0 where
    pub new : SqlKeep (FileStore D d)
    pub files : Files D
    pub saved : IsSaved new.conn files
    pub run : (s : State) → g.holds old s → Only s (g.after_stop old)
        → IsRunOf given order input s (Ok ending) (g.is_honest new) (g.holds new) (g.after_stop new)
        before after

module _ {D : Type 0} {d : DiskGhosts D} (g : Ghosts (SqlKeep (FileStore D d)))
    (start : Image) where
  -- in a session over what a connection found in these bytes, at a moment that was given
  abbrev pub IsImported : (ℕ → Type 0) → ImportOrder → Option (List ℕ) → Option (List ℕ)
      → Option (List ℕ) → Ending → Type 0
  IsImported given order input before after ending =
      BeginsSession g start (IsImportedOver g given order input before after ending)

  abbrev pub IsImportedInParts : (ℕ → Type 0) → ImportOrder → Option (List ℕ) → Option (List ℕ)
      → Option (List ℕ) → Ending → Type 0
  IsImportedInParts given order input before after ending =
      BeginsSession g start (IsImportedInPartsOver g given order input before after ending)
