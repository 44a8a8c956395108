-- What the making of a file comes to.
use Rattle.std.specs.Prelude.{◌≡◌}
use Rattle.sqlite.specs.Files.{file_state, over_files}
use Rattle.sqlite.specs.Held.{Held}
use Rattle.sqlite.specs.State.{HasCleanDisk}
use Rattle.sqlite_disk.specs.declared.Disk.{Ghosts as DiskGhosts}
use Rattle.sqlite_disk.specs.declared.Files.{Files}
use Rattle.sqlite_store.specs.declared.store.FileStore.{FileStore}
use Rattle.sqlite_wal.specs.Files.{outcomes}
use Rattle.sqlite_wal.specs.Reads.{AreClean}
use Rattle.sqlite_wal.specs.Recovery.{Image}
use Rattle.tb_calls.specs.declared.keep.Keep.{Ghosts}
use Rattle.tb_keeper.specs.declared.sql_keep.SqlKeep.{SqlKeep}
use Rattle.tb_calls.specs.Call.{State}
use Rattle.tb_files.specs.File.{IsSaved, IsUnsaved}
use Rattle.tb_files.specs.declared.not_done.NotDone.{NotDone}
use Rattle.tb_files.specs.declared.not_done.NotDone.TheVariants.{Failed, Untaken}
use Rattle.tb_headline.specs.Files.{HoldsState}
use Rattle.tb_headline.specs.Refusals.{IsFilled, IsUnmade}
use Rattle.tb_headline.specs.Headline.{IsAt}
use Rattle.tb_keeper.specs.declared.creating.CreateFault.TheVariants as making
use Rattle.tb_orders.specs.Items.{fault_alone}
use Rattle.tb_program.specs.declared.fault.Fault.{Fault}
use Rattle.tb_program.specs.declared.fault.Fault.TheVariants as fault

module _ {D : Type 0} {d : DiskGhosts D} where
  -- where tables were found the fault is NotEmpty, and they are as they were
  abbrev pub IsUnmadeFor : Held (FileStore D d) → State → Held (FileStore D d) → Fault → Type 0
  IsUnmadeFor found s left fault.NotEmpty = IsUnmade over_files s found left making.NotEmpty
  IsUnmadeFor found s left fault.Store = (IsFilled (file_state found) → ⊥)
      × IsUnmade over_files s found left making.Store
  IsUnmadeFor found s left fault.Memory = (IsFilled (file_state found) → ⊥)
      × IsUnmade over_files s found left making.Memory
  IsUnmadeFor found s left other = ⊥

module _ {D : Type 0} {d : DiskGhosts D} (g : Ghosts (SqlKeep (FileStore D d))) where
  -- A keeper was made over what a connection found, is at the state, and is saved. Whatever a stop leaves of the files then holds the state.
  pub record IsMade (found : Held (FileStore D d)) (s : State) : Type 0 where
    pub keep : SqlKeep (FileStore D d)
    pub at : HasCleanDisk (file_state found) → IsAt s (g.holds keep) (g.after_stop keep)
    pub files : Files D
    pub saved : IsSaved keep.conn files
    pub holds : HasCleanDisk (file_state found) → AreClean d files.log files.db → (next : Image)
        → outcomes d files.log files.db next → ∥ HoldsState s next ∥₁

  -- it was made, and couldn't be saved
  pub record IsMadeUnsaved (found : Held (FileStore D d)) (s : State) : Type 0 where
    pub keep : SqlKeep (FileStore D d)
    pub at : HasCleanDisk (file_state found) → IsAt s (g.holds keep) (g.after_stop keep)
    pub unsaved : IsUnsaved keep.conn

  -- none was made, for the fault that is reported; or it was made, and couldn't be saved
  abbrev pub IsNotMade : Held (FileStore D d) → State → NotDone (Held (FileStore D d)) → Type 0
  IsNotMade found s (Untaken untaken) = IsUnmadeFor found s untaken.left untaken.fault
  IsNotMade found s (Failed failed) = (failed ≡ fault_alone fault.Store) × IsMadeUnsaved found s
