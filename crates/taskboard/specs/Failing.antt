-- What an order that met a fault leaves: of its file, of what it sent, and of what was printed.
use Rattle.std.specs.Prelude.{◌≡◌, ◌⊎◌, ℕ, Bool, true, false, List, Option, Some, IfSome, Ok, Err}
use Rattle.sqlite.specs.Held.{Held}
use Rattle.sqlite_disk.specs.declared.Disk.{Ghosts as DiskGhosts}
use Rattle.sqlite_store.specs.declared.store.FileStore.{FileStore}
use Rattle.sqlite_wal.specs.Recovery.{Image}
use Rattle.taskboard.specs.Orders.{is_skip, script_text}
use Rattle.taskboard.specs.Serve.{IsServerFailed}
use Rattle.taskboard.specs.declared.TheConstants.{VERSION}
use Rattle.tb_calls.specs.Call.{State, opening}
use Rattle.tb_calls.specs.declared.keep.Keep.{Ghosts}
use Rattle.tb_cleaning.specs.Cleaning.{Cleans}
use Rattle.tb_cleaning.specs.declared.cleaning.Cleaned.{Cleaned}
use Rattle.tb_cleaning.specs.declared.fault.CleaningFault.TheVariants as cleaning
use Rattle.tb_caller.specs.Sent.{IsUnsentOver}
use Rattle.tb_client.specs.Asking.{Event}
use Rattle.tb_command_line.specs.Help.{help_text}
use Rattle.tb_command_line.specs.declared.order.CleanMode.{CleanMode}
use Rattle.tb_command_line.specs.declared.order.CleanMode.TheVariants as mode
use Rattle.tb_command_line.specs.declared.order.CleanOrder.{CleanOrder}
use Rattle.tb_command_line.specs.declared.order.ImportOrder.{ImportOrder}
use Rattle.tb_command_line.specs.declared.order.Order.{Order}
use Rattle.tb_command_line.specs.declared.order.Order.TheVariants.{Init, Serve, Run, Import, ImportAll, Clean, View, Check, Key, Send, My, Help, Version}
use Rattle.tb_command_line.specs.declared.order.SendOrder.{SendOrder}
use Rattle.tb_command_line.specs.declared.order.ViewOrder.{ViewOrder}
use Rattle.tb_files.specs.Check.{IsCheckCut}
use Rattle.tb_files.specs.Failed.{IsImportFailed, IsRunFailed, may_print, may_print_parts}
use Rattle.tb_files.specs.File.{InSession, IsFoundIn}
use Rattle.tb_files.specs.Init.{IsNotMade}
use Rattle.tb_files.specs.Key.{IsKeyFailed}
use Rattle.tb_files.specs.NotDone.{IsNotDone, failure_of}
use Rattle.tb_files.specs.View.{IsCutShort}
use Rattle.tb_files.specs.Faults.{is_of_showing}
use Rattle.tb_files.specs.declared.not_done.NotDone.{NotDone}
use Rattle.tb_keeper.specs.declared.sql_keep.SqlKeep.{SqlKeep}
use Rattle.tb_orders.specs.Faults.{is_of_files}
use Rattle.tb_orders.specs.Items.{IsBadAmong, IsBadIn, fault_alone}
use Rattle.tb_orders.specs.Telling.{is_of_answers}
use Rattle.tb_orders.specs.declared.order_fault.OrderFault.{OrderFault}
use Rattle.tb_program.specs.declared.fault.Fault.{Fault}
use Rattle.tb_program.specs.declared.fault.Fault.TheVariants as fault
use Rattle.tb_sending.specs.declared.server_line.ServerLine.{ServerLine}
use Rattle.tb_values.specs.Appends.{AppendsFront}

-- no connection to a file was opened
abbrev pub IsUnfound : OrderFault → Type 0
IsUnfound failed = (failed ≡ fault_alone failed.fault) × (is_of_files failed.fault ≡ true)

-- a text has no tasks in JSON, or too many; or there was no memory to clean it
abbrev pub IsUnclean : Bool → List ℕ → Fault → Type 0
IsUnclean skips text fault.BadBody =
    Cleans skips text (Err cleaning.NotJson) ⊎ Cleans skips text (Err cleaning.TooMany)
IsUnclean skips text told = told ≡ fault.Memory

-- an input can't be read to its end
abbrev pub IsUnread : Fault → Type 0
IsUnread told = (told ≡ fault.ReadFailed) ⊎ (told ≡ fault.Memory)

module _ {D : Type 0} {d : DiskGhosts D} (g : Ghosts (SqlKeep (FileStore D d)))
    (start : Image) where
  -- it was carried out over what a connection found in these bytes, up to this fault
  pub record IsOver (is : Held (FileStore D d) → NotDone (Held (FileStore D d)) → Type 0)
      (failed : OrderFault) : Type 0 where
    pub found : Held (FileStore D d)
    pub is_found : IsFoundIn start found
    pub undone : NotDone (Held (FileStore D d))
    pub done : is found undone
    pub told : failed ≡ failure_of undone

  abbrev pub IsUnmade : State → OrderFault → Type 0
  IsUnmade s failed =
      IsUnfound failed ⊎ IsOver (λ found undone. IsNotMade g found s undone) failed

module _ {D W : Type 0} {d : DiskGhosts D} (g : Ghosts (SqlKeep (FileStore D d)))
    (start : Image) (contents : W → Option (List ℕ)) where
  -- nothing was printed, or a prefix of what a session shows; where the writer failed, one had begun
  abbrev pub IsUnshown : ViewOrder → W → W → OrderFault → Type 0
  IsUnshown order before after failed = ((after ≡ before) × IsUnfound failed) ⊎ IsOver g start
      (λ found undone. IsNotDone g is_of_showing found undone
      × ((failure_of undone).fault ≡ fault.WriteFailed → InSession g found
      (λ old. IsCutShort g (λ at. Unit {0}) order old (contents before) (contents after)))
      × ((after ≡ before) ⊎ InSession g found
      (λ old. IsCutShort g (λ at. Unit {0}) order old (contents before) (contents after)))) failed

  -- nothing was printed, or a prefix of what was counted
  abbrev pub IsUnchecked : W → W → OrderFault → Type 0
  IsUnchecked before after failed = ((after ≡ before) × IsUnfound failed) ⊎ IsOver g start
      (λ found undone. IsNotDone g is_of_answers found undone
      × ((after ≡ before) ⊎ InSession g found
      (λ old. IsCheckCut old (contents before) (contents after)))) failed

  -- an import by one call
  abbrev pub IsUnimported : ImportOrder → Option (List ℕ) → W → W → OrderFault → Type 0
  IsUnimported order input before after failed =
      IsImportFailed g start contents (λ at. Unit {0}) order input before after failed.fault
      × (may_print failed.fault ≡ false → after ≡ before)
      × IfSome failed.item (IsBadIn order input)

  -- and in parts
  abbrev pub IsUnimportedInParts : ImportOrder → Option (List ℕ) → W → W → OrderFault → Type 0
  IsUnimportedInParts order input before after failed =
      IsRunFailed g start contents (λ at. Unit {0}) order input before after failed.fault
      × (may_print_parts failed.fault ≡ false → after ≡ before)
      × IfSome failed.item (IsBadAmong order input)

  abbrev pub IsUnbrought : Bool → ImportOrder → List ℕ → W → W → OrderFault → Type 0
  IsUnbrought true order text before after failed =
      IsUnimportedInParts order (Some text) before after failed
  IsUnbrought false order text before after failed =
      IsUnimported order (Some text) before after failed

  -- Where a text is only looked at, a prefix of the notes was printed; else it was brought up to the fault.
  abbrev pub IsCutAfter : CleanMode → Bool → ImportOrder → Cleaned → W → W → OrderFault → Type 0
  IsCutAfter mode.Check is_all order cleaned before after failed =
      (failed ≡ fault_alone fault.WriteFailed)
      × AppendsFront (contents before) (contents after) cleaned.notes
  IsCutAfter mode.Clean is_all order cleaned before after failed =
      (cleaned.is_whole ≡ true) × IsUnbrought is_all order cleaned.text before after failed
  IsCutAfter mode.Skip is_all order cleaned before after failed =
      IsUnbrought is_all order cleaned.text before after failed

  -- a text was read, and can't be cleaned; or it was cleaned, and the fault came after that
  pub record IsCutWith (order : CleanOrder) (input : Option (List ℕ)) (before after : W)
      (failed : OrderFault) : Type 0 where
    pub text : List ℕ
    pub whole : IfSome input (λ all. text ≡ all)
    pub cut : ((after ≡ before) × IsUnclean (is_skip order.mode) text failed.fault)
        ⊎ ((cleaned : Cleaned) × Cleans (is_skip order.mode) text (Ok cleaned)
        × IsCutAfter order.mode order.is_all order.import cleaned before after failed)

  abbrev pub IsUncleaned : CleanOrder → Option (List ℕ) → W → W → OrderFault → Type 0
  IsUncleaned order input before after failed =
      ((after ≡ before) × IsUnread failed.fault) ⊎ IsCutWith order input before after failed

module _ {D M W : Type 0} {d : DiskGhosts D} (g : Ghosts (SqlKeep (FileStore D d)))
    (start : Image) (follows : List Event → ServerLine M → ServerLine M → Type 0)
    (contents : W → Option (List ℕ)) where
  -- With an input, and a writer before and after it.
  abbrev pub IsLeft : Order → Option (List ℕ) → W → W → OrderFault → Type 0
  IsLeft (Init order) input before after failed =
      (after ≡ before) × IsUnmade g start (opening order.name order.key) failed
  IsLeft (Serve order) input before after failed =
      (after ≡ before) × IsServerFailed g start order failed.fault
  IsLeft Run input before after failed = IfSome input
      (λ script. AppendsFront (contents before) (contents after) (script_text script))
  IsLeft (Import order) input before after failed =
      IsUnimported g start contents order input before after failed
  IsLeft (ImportAll order) input before after failed =
      IsUnimportedInParts g start contents order input before after failed
  IsLeft (Clean order) input before after failed =
      IsUncleaned g start contents order input before after failed
  IsLeft (View order) input before after failed =
      IsUnshown g start contents order before after failed
  IsLeft (Check file) input before after failed = IsUnchecked g start contents before after failed
  IsLeft (Key order) input before after failed =
      IsKeyFailed g start contents (λ at. Unit {0}) order input before after failed.fault
      × (may_print failed.fault ≡ false → after ≡ before)
  IsLeft (Send order) input before after failed =
      IsUnsentOver follows contents order before after failed.fault
  -- of words of `my` that meet a fault nothing is said
  IsLeft (My order) input before after failed = Unit {0}
  IsLeft (Help topic) input before after failed =
      AppendsFront (contents before) (contents after) (help_text topic)
  IsLeft Version input before after failed =
      AppendsFront (contents before) (contents after) VERSION.now
