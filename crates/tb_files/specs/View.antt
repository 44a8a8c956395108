-- What the printing of a view of a file's board comes to.
use Rattle.std.specs.Prelude.{◌≡◌, ℕ, true, List, Option}
use Rattle.std.specs.Io.KnownBytes.{Appends}
use Rattle.sqlite_disk.specs.declared.Disk.{Ghosts as DiskGhosts}
use Rattle.sqlite_disk.specs.declared.Files.{Files}
use Rattle.sqlite_store.specs.declared.store.FileStore.{FileStore}
use Rattle.tb_calls.specs.declared.keep.Keep.{Ghosts}
use Rattle.tb_keeper.specs.declared.sql_keep.SqlKeep.{SqlKeep}
use Rattle.tb_calls.specs.Call.{State}
use Rattle.tb_calls.specs.Keep.{IsStill}
use Rattle.tb_command_line.specs.declared.order.ViewOrder.{ViewOrder}
use Rattle.tb_files.specs.File.{IsSaved}
use Rattle.tb_orders.specs.Orders.{ending_of, shown_by, view_text}
use Rattle.tb_orders.specs.declared.ending.Ending.{Ending}
use Rattle.tb_values.specs.Appends.{AppendsFront}

module _ {D : Type 0} {d : DiskGhosts D} (g : Ghosts (SqlKeep (FileStore D d)))
    (given : ℕ → Type 0) where
  -- The view is shown of the state that a keeper is at, as it is at the moment that was given. The state stays, and the file is saved.
  pub record IsShown (order : ViewOrder) (old : SqlKeep (FileStore D d))
      (before after : Option (List ℕ)) (ending : Ending) : Type 0 where
    pub new : SqlKeep (FileStore D d)
    pub files : Files D
    pub saved : IsSaved new.conn files
    pub at : ℕ
    pub asked : given at
    pub told : g.is_honest new ≡ true → (s : State) → g.holds old s
        → Appends before after (view_text (shown_by s order at))
    pub ends : g.is_honest new ≡ true → (s : State) → g.holds old s
        → ending ≡ ending_of (shown_by s order at)
    pub same : IsStill (g.holds old) (g.after_stop old) (g.holds new) (g.after_stop new)

  -- it was shown, but for what wasn't found or written
  pub record IsCutShort (order : ViewOrder) (old : SqlKeep (FileStore D d))
      (before after : Option (List ℕ)) : Type 0 where
    pub new : SqlKeep (FileStore D d)
    pub at : ℕ
    pub asked : given at
    pub front : g.is_honest new ≡ true → (s : State) → g.holds old s
        → AppendsFront before after (view_text (shown_by s order at))
