-- A cleaned text that is brought by one call, or in parts.
use Rattle.std.proofs.Common.{◌≡◌, Bool, true, false, IfErr, IfOk, IfSome, List, ℕ, Option, Some, Result, Ok, Err, subst, sym}
use Rattle.sqlite_disk.specs.declared.Disk.{Ghosts as DiskGhosts}
use Rattle.sqlite_store.specs.declared.store.FileStore.{FileStore}
use Rattle.sqlite_wal.specs.Recovery.{Image}
use Rattle.taskboard.specs.Failing.{IsUnbrought, IsUnimported, IsUnimportedInParts}
use Rattle.taskboard.specs.Orders.{IsBrought}
use Rattle.tb_calls.specs.declared.keep.Keep.{Ghosts}
use Rattle.tb_command_line.specs.declared.order.ImportOrder.{ImportOrder}
use Rattle.tb_files.specs.Failed.{IsImportFailed, IsRunFailed, may_print, may_print_parts}
use Rattle.tb_files.specs.Import.{IsImported, IsImportedInParts}
use Rattle.tb_keeper.specs.declared.sql_keep.SqlKeep.{SqlKeep}
use Rattle.tb_orders.specs.Items.{IsBadAmong, IsBadIn}
use Rattle.tb_orders.specs.declared.ending.Ending.{Ending}
use Rattle.tb_orders.specs.declared.order_fault.OrderFault.{OrderFault}

pub brought_in_parts : {D W E : Type 0} {d : DiskGhosts D} (g : Ghosts (SqlKeep (FileStore D d))) (start : Image) (contents : W → Option (List ℕ)) (is_all : Bool) (order : ImportOrder)
    (text read : List ℕ) (before after : W) (r : Result Ending E) → is_all ≡ true → read ≡ text
    → IfOk r (IsImportedInParts g start (λ at. Unit {0}) order (Some read) (contents before) (contents after)) → IfOk r (IsBrought g start contents is_all order text before after)
brought_in_parts g start contents is_all order text read before after r is same done =
    subst (λ b. IfOk r (IsBrought g start contents b order text before after)) (sym is)
    (subst (λ t. IfOk r (IsImportedInParts g start (λ at. Unit {0}) order (Some t) (contents before) (contents after))) same done)

pub brought_whole : {D W E : Type 0} {d : DiskGhosts D} (g : Ghosts (SqlKeep (FileStore D d))) (start : Image) (contents : W → Option (List ℕ)) (is_all : Bool) (order : ImportOrder)
    (text read : List ℕ) (before after : W) (r : Result Ending E) → is_all ≡ false → read ≡ text
    → IfOk r (IsImported g start (λ at. Unit {0}) order (Some read) (contents before) (contents after)) → IfOk r (IsBrought g start contents is_all order text before after)
brought_whole g start contents is_all order text read before after r is same done =
    subst (λ b. IfOk r (IsBrought g start contents b order text before after)) (sym is)
    (subst (λ t. IfOk r (IsImported g start (λ at. Unit {0}) order (Some t) (contents before) (contents after))) same done)

pub cut_in_parts : {D W E : Type 0} {d : DiskGhosts D} (g : Ghosts (SqlKeep (FileStore D d))) (start : Image) (contents : W → Option (List ℕ)) (is_all : Bool) (order : ImportOrder)
    (text read : List ℕ) (before after : W) (r : Result E OrderFault) → is_all ≡ true → read ≡ text
    → IfErr r (λ failed. IsRunFailed g start contents (λ at. Unit {0}) order (Some read) before after failed.fault)
    → IfErr r (λ failed. may_print_parts failed.fault ≡ false → after ≡ before)
    → IfErr r (λ failed. IfSome failed.item (IsBadAmong order (Some read)))
    → IfErr r (IsUnbrought g start contents is_all order text before after)
cut_in_parts g start contents is_all order text read before after (Ok x) is same failed silent item = tt
cut_in_parts g start contents is_all order text read before after (Err e) is same failed silent item =
    subst (λ b. IsUnbrought g start contents b order text before after e) (sym is)
    (subst (λ t. IsUnimportedInParts g start contents order (Some t) before after e) same (failed, silent, item))

pub cut_whole : {D W E : Type 0} {d : DiskGhosts D} (g : Ghosts (SqlKeep (FileStore D d))) (start : Image) (contents : W → Option (List ℕ)) (is_all : Bool) (order : ImportOrder)
    (text read : List ℕ) (before after : W) (r : Result E OrderFault) → is_all ≡ false → read ≡ text
    → IfErr r (λ failed. IsImportFailed g start contents (λ at. Unit {0}) order (Some read) before after failed.fault)
    → IfErr r (λ failed. may_print failed.fault ≡ false → after ≡ before)
    → IfErr r (λ failed. IfSome failed.item (IsBadIn order (Some read)))
    → IfErr r (IsUnbrought g start contents is_all order text before after)
cut_whole g start contents is_all order text read before after (Ok x) is same failed silent item = tt
cut_whole g start contents is_all order text read before after (Err e) is same failed silent item =
    subst (λ b. IsUnbrought g start contents b order text before after e) (sym is)
    (subst (λ t. IsUnimported g start contents order (Some t) before after e) same (failed, silent, item))
