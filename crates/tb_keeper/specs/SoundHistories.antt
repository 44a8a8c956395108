-- When a board's history is sound, whatever the rows are.
use Rattle.std.specs.Prelude.{◌≡◌, ◌≢◌, ◌≤◌, ℕ, true, List, [], filter, IfSome, IsSome, IsPermutation}
use Rattle.std.specs.List.{list_any, AllByRecursion}
use Rattle.tb_task.specs.Storable.{IsMoment}
use Rattle.tb_deeds.specs.Kinds.{kind_of_number}
use Rattle.tb_sql_tables.specs.declared.rows.HistoryRow.{HistoryRow}
use Rattle.tb_sql_tables.specs.Content.{Content}
use Rattle.tb_sql.specs.Changes.{is_kept, is_person}
use Rattle.tb_sql_pages.specs.Entries.{is_entry_between}
use Rattle.tb_sql_pages.specs.Last.{AreNumberedFrom}

-- Its moment and what was done can be read, and the board has a task at its place, counted from 1.
pub record IsReadable (tasks : ℕ) (row : HistoryRow) : Type 0 where
  pub moment : IsMoment row.moment
  pub what : IsSome (kind_of_number row.what)
  pub place : IfSome row.task (λ place. (1 ≤ place) × (place ≤ tasks))

-- It can be read, and its person and its kept reply are there.
pub record IsSoundEntry (c : Content) (tasks : ℕ) (row : HistoryRow) : Type 0 where
  pub readable : IsReadable tasks row
  pub person : list_any (is_person row.person) c.people ≡ true
  pub kept : filter (is_kept row.person row.call) c.kept ≢ []

-- The entries of a board with so many tasks are numbered from 1 without a gap, and each is sound. Their numbers have 32 bits.
-- Rule: check counts a board whose history isn't sound. Tried by audit_finds.
pub record IsSoundHistory (c : Content) (board tasks : ℕ) : Type 0 where
  pub rows : List HistoryRow
  pub own : IsPermutation rows (filter (is_entry_between board 0 4294967295) c.history)
  pub numbered : AreNumberedFrom (λ row. row.number) 1 rows
  pub each : AllByRecursion (IsSoundEntry c tasks) rows
