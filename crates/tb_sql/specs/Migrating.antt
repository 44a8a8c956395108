-- What the rows of the first and of the second version become.
use Rattle.std.specs.Prelude.{◌≡◌, ℕ, List, [], length, map}
use Rattle.sqlite.specs.Effect.{Database}
use Rattle.tb_sql_tables.specs.declared.rows.BoardRow.{BoardRow}
use Rattle.tb_sql_tables.specs.declared.rows.HorizonRow.{HorizonRow}
use Rattle.tb_sql_tables.specs.Content.{without_history, Content, IsContent}
use Rattle.tb_sql.specs.declared.changes.RowChange.{RowChange}
use Rattle.tb_sql.specs.declared.changes.RowChange.TheVariants.{AddHorizon}
use Rattle.tb_sql.specs.declared.migrating.Counts.{Counts}

abbrev pub without_horizon : Content → Content
without_horizon content = record content { horizon = [] }

-- a board of the first version has one instance ahead
abbrev pub first_horizon : BoardRow → HorizonRow
first_horizon board = record { board = board.id; ahead = 1 }

abbrev pub horizon_changes : List BoardRow → List RowChange
horizon_changes boards = map (λ board. AddHorizon (first_horizon board)) boards

-- the same rows, that of each board, and no history
-- Rule: a file of version 1 gets the tables of today. Tried by migrated.
abbrev pub migrated : Content → Content
migrated content = record content { horizon = map first_horizon content.boards; history = [] }

-- those rows are there, and the numbers of people and boards are these
pub record IsMigrated (content : Content) (counts : Counts) (db : Database) : Type 0 where
  pub is : IsContent (migrated content) db
  pub people : counts.people ≡ length content.people
  pub boards : counts.boards ≡ length content.boards

-- the rows of the second version are there, with no history, and the numbers of people and boards are these
-- Rule: a file of version 2 without a history gets one, which is empty. Tried by migration_stopped.
pub record IsWidened (content : Content) (counts : Counts) (db : Database) : Type 0 where
  pub is : IsContent (without_history content) db
  pub people : counts.people ≡ length content.people
  pub boards : counts.boards ≡ length content.boards
