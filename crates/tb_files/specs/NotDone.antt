-- Why an order over what a connection found wasn't carried out.
use Rattle.std.specs.Prelude.{◌≡◌, Bool, true}
use Rattle.sqlite.specs.Files.{file_state, over_files}
use Rattle.sqlite.specs.Held.{Held}
use Rattle.sqlite_disk.specs.declared.Disk.{Ghosts as DiskGhosts}
use Rattle.sqlite_store.specs.declared.store.FileStore.{FileStore}
use Rattle.tb_calls.specs.declared.keep.Keep.{Ghosts}
use Rattle.tb_files.specs.File.{IsBegun}
use Rattle.tb_files.specs.declared.not_done.NotDone.{NotDone}
use Rattle.tb_files.specs.declared.not_done.NotDone.TheVariants.{Failed, Untaken}
use Rattle.tb_headline.specs.Refusals.{IsRefused}
use Rattle.tb_keeper.specs.declared.sql_keep.SqlKeep.{SqlKeep}
use Rattle.tb_orders.specs.Items.{fault_alone}
use Rattle.tb_orders.specs.declared.order_fault.OrderFault.{OrderFault}
use Rattle.tb_program.specs.declared.fault.Fault.{Fault}
use Rattle.tb_program.specs.declared.fault.Fault.TheVariants as fault
use Rattle.tb_sql.specs.declared.opening.OpenFault.TheVariants as opening

-- as the program reports it
abbrev pub failure_of : {L : Type 0} → NotDone L → OrderFault
failure_of (Untaken untaken) = fault_alone untaken.fault
failure_of (Failed failed) = failed

module _ {D : Type 0} {d : DiskGhosts D} where
  -- Why no session began over what was found, by the fault, and what is left of it: NotOurs and WrongVersion as its tables and the rows
  -- of the first say, Store where the disk failed, Memory. Where the first table is missing it is NotOurs.
  abbrev pub IsUntaken : Held (FileStore D d) → Held (FileStore D d) → Fault → Type 0
  IsUntaken found left fault.NotOurs = IsRefused over_files found (file_state left) opening.NotOurs
  IsUntaken found left fault.WrongVersion =
      IsRefused over_files found (file_state left) opening.WrongVersion
  IsUntaken found left fault.Store = IsRefused over_files found (file_state left) opening.Store
  IsUntaken found left fault.Memory = IsRefused over_files found (file_state left) opening.Memory
  IsUntaken found left other = ⊥

module _ {D : Type 0} {d : DiskGhosts D} (g : Ghosts (SqlKeep (FileStore D d))) where
  -- No session began over what was found, for the fault that is reported; or one began, and the order failed after that with a fault of
  -- a kind.
  abbrev pub IsNotDone : (Fault → Bool) → Held (FileStore D d) → NotDone (Held (FileStore D d))
      → Type 0
  IsNotDone kind found (Untaken untaken) = IsUntaken found untaken.left untaken.fault
  IsNotDone kind found (Failed failed) = (kind failed.fault ≡ true)
      × ((keep : SqlKeep (FileStore D d)) × IsBegun g found keep)
