-- What an import that failed has done to a file.
use Rattle.std.specs.Prelude.{◌≡◌, ◌⊎◌, Bool, true, false, ℕ, List, OnOk, Option, Result, Ok, Err}
use Rattle.sqlite.specs.Held.{Held}
use Rattle.sqlite_disk.specs.declared.Disk.{Ghosts as DiskGhosts}
use Rattle.sqlite_store.specs.declared.store.FileStore.{FileStore}
use Rattle.sqlite_wal.specs.Recovery.{Image}
use Rattle.tb_calls.specs.Call.{State}
use Rattle.tb_calls.specs.Leaving.{Only}
use Rattle.tb_calls.specs.declared.keep.Keep.{Ghosts}
use Rattle.tb_command_line.specs.declared.order.ImportOrder.{ImportOrder}
use Rattle.tb_files.specs.File.{BeginsSession, IsFoundIn, IsUnsaved}
use Rattle.tb_files.specs.NotDone.{IsUntaken}
use Rattle.tb_keeper.specs.declared.sql_keep.SqlKeep.{SqlKeep}
use Rattle.tb_orders.specs.Doing.{Does}
use Rattle.tb_orders.specs.Faults.{is_of_files}
use Rattle.tb_orders.specs.Running.{IsRunOf}
use Rattle.tb_orders.specs.declared.ending.Ending.{Ending}
use Rattle.tb_program.specs.declared.fault.Fault.{Fault}
use Rattle.tb_program.specs.declared.fault.Fault.TheVariants as fault

-- A part of the reply may have been printed, or all of it, and then the file couldn't be closed.
abbrev pub may_print : Fault → Bool
may_print fault.Store = true
may_print fault.WriteFailed = true
may_print other = false

-- The replies to earlier parts may have been.
abbrev pub may_print_parts : Fault → Bool
may_print_parts fault.BadBody = true
may_print_parts fault.Memory = true
may_print_parts other = may_print other

-- the fault is that of the import, or it is Store of the closing after an import that ended well
abbrev pub EndsIn : Result Ending Fault → Fault → Type 0
EndsIn (Ok ending) told = told ≡ fault.Store
EndsIn (Err why) told = told ≡ why

module _ {D : Type 0} {d : DiskGhosts D} (g : Ghosts (SqlKeep (FileStore D d)))
    (start : Image) where
  -- no session began over what a connection found in these bytes
  pub record IsNotTaken (told : Fault) : Type 0 where
    pub found : Held (FileStore D d)
    pub is_found : IsFoundIn start found
    pub left : Held (FileStore D d)
    pub untaken : IsUntaken found left told

  -- there was no connection, for Store or Memory, or no session began over what it found
  abbrev pub IsUnopened : Fault → Type 0
  IsUnopened told = (is_of_files told ≡ true) ⊎ IsNotTaken told

module _ {D W : Type 0} {d : DiskGhosts D} (g : Ghosts (SqlKeep (FileStore D d)))
    (contents : W → Option (List ℕ)) where
  -- an import in a session
  pub record IsImportCut (given : ℕ → Type 0) (order : ImportOrder) (input : Option (List ℕ))
      (before after : W) (told : Fault) (old : SqlKeep (FileStore D d)) : Type 0 where
    pub new : SqlKeep (FileStore D d)
    pub end : Result Ending Fault
    pub ends : EndsIn end told
    pub unsaved : OnOk end (IsUnsaved new.conn)
    pub does : (s : State) → g.holds old s → Only s (g.after_stop old)
        → Does given order input s end (g.is_honest new) (g.holds new) (g.after_stop new)
        (contents before) (contents after)

  -- an import in parts in a session
  pub record IsRunCut (given : ℕ → Type 0) (order : ImportOrder) (input : Option (List ℕ))
      (before after : W) (told : Fault) (old : SqlKeep (FileStore D d)) : Type 0 where
    pub new : SqlKeep (FileStore D d)
    pub end : Result Ending Fault
    pub ends : EndsIn end told
    pub unsaved : OnOk end (IsUnsaved new.conn)
    pub run : (s : State) → g.holds old s → Only s (g.after_stop old)
        → IsRunOf given order input s end (g.is_honest new) (g.holds new) (g.after_stop new)
        (contents before) (contents after)

module _ {D W : Type 0} {d : DiskGhosts D} (g : Ghosts (SqlKeep (FileStore D d)))
    (start : Image) (contents : W → Option (List ℕ)) where
  -- no session began over these bytes, and nothing was printed
  abbrev pub IsUnbegun : W → W → Fault → Type 0
  IsUnbegun before after told = IsUnopened g start told × (after ≡ before)

  abbrev pub IsImportFailed : (ℕ → Type 0) → ImportOrder → Option (List ℕ) → W → W → Fault → Type 0
  IsImportFailed given order input before after told = IsUnbegun before after told
      ⊎ BeginsSession g start (IsImportCut g contents given order input before after told)

  abbrev pub IsRunFailed : (ℕ → Type 0) → ImportOrder → Option (List ℕ) → W → W → Fault → Type 0
  IsRunFailed given order input before after told = IsUnbegun before after told
      ⊎ BeginsSession g start (IsRunCut g contents given order input before after told)
