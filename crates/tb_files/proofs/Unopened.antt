-- Why no session begins over what a connection found.
use Rattle.sqlite.specs.Files.{file_state, over_files}
use Rattle.sqlite.specs.Held.{Held}
use Rattle.sqlite_disk.specs.declared.Disk.{Ghosts as DiskGhosts}
use Rattle.sqlite_store.specs.declared.store.FileStore.{FileStore}
use Rattle.tb_files.specs.NotDone.{IsUntaken}
use Rattle.tb_headline.specs.Refusals.{IsRefused}
use Rattle.tb_files.specs.Faults.{fault_of_opening}
use Rattle.tb_sql.specs.declared.opening.OpenFault.{OpenFault}
use Rattle.tb_sql.specs.declared.opening.OpenFault.TheVariants as opening

pub by_opening : {D : Type 0} {d : DiskGhosts D} (found left : Held (FileStore D d)) (fault : OpenFault)
    → IsRefused over_files found (file_state left) fault → IsUntaken found left (fault_of_opening fault)
by_opening found left opening.NotOurs refused = refused
by_opening found left opening.WrongVersion refused = refused
by_opening found left opening.Store refused = refused
by_opening found left opening.Memory refused = refused
