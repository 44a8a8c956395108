-- What is said of a keeper or of an ending is said of what equals it.
use Rattle.std.proofs.Common.{◌≡◌, ℕ, List, Option, subst, sym}
use Rattle.sqlite.specs.Held.{Held}
use Rattle.sqlite_disk.specs.declared.Disk.{Ghosts as DiskGhosts}
use Rattle.sqlite_store.specs.declared.store.FileStore.{FileStore}
use Rattle.tb_calls.specs.declared.keep.Keep.{Ghosts}
use Rattle.tb_command_line.specs.declared.order.ImportOrder.{ImportOrder}
use Rattle.tb_files.specs.File.{IsBegun}
use Rattle.tb_files.specs.Import.{IsImportedInPartsOver, IsImportedOver}
use Rattle.tb_keeper.specs.declared.sql_keep.SqlKeep.{SqlKeep}
use Rattle.tb_orders.specs.declared.ending.Ending.{Ending}

module _ {D : Type 0} {d : DiskGhosts D} (g : Ghosts (SqlKeep (FileStore D d))) where
  pub begun_as : (found : Held (FileStore D d)) (keep other : SqlKeep (FileStore D d)) → keep ≡ other → IsBegun g found other → IsBegun g found keep
  begun_as found keep other same begun = subst (λ (x : SqlKeep (FileStore D d)). IsBegun g found x) (sym same) begun

  pub imported_as : (given : ℕ → Type 0) (order : ImportOrder) (input before after : Option (List ℕ)) (told ending : Ending) (old : SqlKeep (FileStore D d)) → told ≡ ending
      → IsImportedOver g given order input before after ending old → IsImportedOver g given order input before after told old
  imported_as given order input before after told ending old same is = subst (λ (x : Ending). IsImportedOver g given order input before after x old) (sym same) is

  pub imported_in_parts_as : (given : ℕ → Type 0) (order : ImportOrder) (input before after : Option (List ℕ)) (told ending : Ending) (old : SqlKeep (FileStore D d)) → told ≡ ending
      → IsImportedInPartsOver g given order input before after ending old → IsImportedInPartsOver g given order input before after told old
  imported_in_parts_as given order input before after told ending old same is = subst (λ (x : Ending). IsImportedInPartsOver g given order input before after x old) (sym same) is
