-- What the comparison of a file's rows with its tasks comes to.
use Rattle.std.specs.Prelude.{◌≡◌, ℕ, List, Option}
use Rattle.std.specs.Io.KnownBytes.{Appends}
use Rattle.sqlite.specs.Files.{file_state}
use Rattle.sqlite_disk.specs.declared.Disk.{Ghosts as DiskGhosts}
use Rattle.sqlite_disk.specs.declared.Files.{Files}
use Rattle.sqlite_store.specs.declared.store.FileStore.{FileStore}
use Rattle.tb_keeper.specs.declared.sql_keep.SqlKeep.{SqlKeep}
use Rattle.tb_files.specs.File.{IsSaved}
use Rattle.tb_keeper.specs.Auditing.{IsCountOf}
use Rattle.tb_keeper.specs.declared.auditing.Audit.{Audit}
use Rattle.tb_files.specs.Auditing.{audit_line, ending_of_audit}
use Rattle.tb_orders.specs.declared.ending.Ending.{Ending}
use Rattle.tb_lookup.specs.Reopening.{OfContent}
use Rattle.tb_values.specs.Appends.{AppendsFront}

module _ {D : Type 0} {d : DiskGhosts D} where
  -- what is told was counted in the content that a keeper found, and the file is saved then
  pub record IsChecked (old : SqlKeep (FileStore D d)) (before after : Option (List ℕ))
      (ending : Ending) : Type 0 where
    pub new : SqlKeep (FileStore D d)
    pub files : Files D
    pub saved : IsSaved new.conn files
    pub audit : Audit
    pub counted : OfContent (file_state old.conn) (file_state new.conn)
        (λ content. IsCountOf content audit)
    pub told : Appends before after (audit_line audit)
    pub ends : ending ≡ ending_of_audit audit

  -- it was counted so, and a prefix of that was printed
  pub record IsCheckCut (old : SqlKeep (FileStore D d)) (before after : Option (List ℕ)) : Type 0 where
    pub new : SqlKeep (FileStore D d)
    pub audit : Audit
    pub counted : OfContent (file_state old.conn) (file_state new.conn)
        (λ content. IsCountOf content audit)
    pub front : AppendsFront before after (audit_line audit)
