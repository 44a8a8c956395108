-- What is left of a file whose session is given up.
use Rattle.std.specs.Prelude.{IsTrue}
use Rattle.sqlite.specs.Held.{AreDatabases, Held}
use Rattle.sqlite_disk.specs.declared.Disk.{Ghosts as DiskGhosts}
use Rattle.sqlite_store.specs.FileStore.{faults, is_shielded, recovers, view}
use Rattle.sqlite_store.specs.declared.store.FileStore.{FileStore}
use Rattle.sqlite_trees.specs.View.{IsClean, IsQuiet}

module _ {D : Type 0} {d : DiskGhosts D} where
  -- Where the disk returned what was written, a stop leaves databases alone of this store, and none that it wouldn't leave of the connection.
  pub record IsGivenUp (conn : Held (FileStore D d)) (last : FileStore D d) : Type 0 where
    pub numbered : IsClean (view last) → IsTrue (view last).is_numbered
    pub sound : IsClean (view last) → AreDatabases (recovers last)
    pub quiet : IsQuiet view faults recovers is_shielded conn.store last
