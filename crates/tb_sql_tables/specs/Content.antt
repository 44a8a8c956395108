-- What the tables hold, and when a connection stands for it.
use Rattle.std.specs.Prelude.{◌≡◌, ◌⊎◌, ◌<◌, ◌^◌, List, [], ◌∷◌, map, drop, IsTrue, IsPermutation}
use Rattle.std.specs.List.{AllByRecursion}
use Rattle.sqlite_value.specs.Order.{Row}
use Rattle.sqlite_trees.specs.declared.store.Shape.TheVariants.{Table}
use Rattle.sqlite_trees.specs.Tree.{Trees}
use Rattle.sqlite_trees.specs.View.{IsShaped}
use Rattle.sqlite_catalog.specs.Listing.{IsSound}
use Rattle.sqlite.specs.Effect.{Database}
use Rattle.sqlite.specs.State.{State, HasCleanDisk}
use Rattle.tb_sql_tables.specs.declared.rows.PersonRow.{PersonRow}
use Rattle.tb_sql_tables.specs.declared.rows.BoardRow.{BoardRow}
use Rattle.tb_sql_tables.specs.declared.rows.RoleRow.{RoleRow}
use Rattle.tb_sql_tables.specs.declared.rows.TaskRow.{TaskRow}
use Rattle.tb_sql_tables.specs.declared.rows.LinkRow.{LinkRow}
use Rattle.tb_sql_tables.specs.declared.rows.InstanceRow.{InstanceRow}
use Rattle.tb_sql_tables.specs.declared.rows.GoneRow.{GoneRow}
use Rattle.tb_sql_tables.specs.declared.rows.KeptRow.{KeptRow}
use Rattle.tb_sql_tables.specs.declared.rows.HorizonRow.{HorizonRow}
use Rattle.tb_sql_tables.specs.declared.rows.HistoryRow.{HistoryRow}
use Rattle.tb_sql_tables.specs.Fitting.{FitsBoard, FitsEntry, FitsGone, FitsHorizon, FitsInstance, FitsKept, FitsLink, FitsPerson, FitsRole, FitsTask}
use Rattle.tb_sql_tables.specs.Tables.{meta_tree, person_tree, board_tree, role_tree, task_tree, link_tree, instance_tree, gone_tree, kept_tree, horizon_tree, history_tree, old_schema, second_schema, store_schema}
use Rattle.tb_sql_tables.specs.Rows.{meta_row, old_meta_row, person_row, board_row, role_row, task_row, link_row, instance_row, gone_row, kept_row, horizon_row, history_row}

-- ---- the content

-- the rows of each table but the first, in any order
pub record Content : Type 0 where
  pub people : List PersonRow
  pub boards : List BoardRow
  pub roles : List RoleRow
  pub tasks : List TaskRow
  pub links : List LinkRow
  pub instances : List InstanceRow
  pub gone : List GoneRow
  pub kept : List KeptRow
  pub horizon : List HorizonRow
  pub history : List HistoryRow

abbrev pub nothing : Content
nothing = record {
  people = [];
  boards = [];
  roles = [];
  tasks = [];
  links = [];
  instances = [];
  gone = [];
  kept = [];
  horizon = [];
  history = [];
}

abbrev pub without_history : Content → Content
without_history content = record content { history = [] }

-- what the tables of the first version hold
abbrev pub old_part : Content → Content
old_part content = record content { horizon = []; history = [] }

-- each identifier is a number of 128 bits
abbrev pub HaveIdentifiers : List TaskRow → Type 0
HaveIdentifiers = AllByRecursion (λ task. task.uuid < 2 ^ 128)

abbrev pub AreIdentified : List KeptRow → Type 0
AreIdentified = AllByRecursion (λ kept. kept.id < 2 ^ 128)

abbrev pub AreCalled : List HistoryRow → Type 0
AreCalled = AllByRecursion (λ row. row.call < 2 ^ 128)

-- each row fits the columns of its table
pub record IsFitting (content : Content) : Type 0 where
  pub people : AllByRecursion FitsPerson content.people
  pub boards : AllByRecursion FitsBoard content.boards
  pub roles : AllByRecursion FitsRole content.roles
  pub tasks : AllByRecursion FitsTask content.tasks
  pub links : AllByRecursion FitsLink content.links
  pub instances : AllByRecursion FitsInstance content.instances
  pub gone : AllByRecursion FitsGone content.gone
  pub kept : AllByRecursion FitsKept content.kept
  pub horizon : AllByRecursion FitsHorizon content.horizon
  pub history : AllByRecursion FitsEntry content.history

-- ---- when the tables hold it

-- The table has these rows, in any order, beside the rowids that SQLite gives them.
pub record HasRows (rows : List Row) (stored : List Row) : Type 0 where
  pub shaped : IsShaped Table stored
  pub same : IsPermutation rows (map (drop 1) stored)

-- The table has these rows with their rowids, in any order.
pub record HasKeyed (rows : List Row) (stored : List Row) : Type 0 where
  pub shaped : IsShaped Table stored
  pub same : IsPermutation rows stored

-- the rows of each table
pub record AreTables (content : Content) (db : Trees) : Type 0 where
  pub meta : HasKeyed (meta_row ∷ []) (db meta_tree)
  pub people : HasKeyed (map person_row content.people) (db person_tree)
  pub boards : HasKeyed (map board_row content.boards) (db board_tree)
  pub roles : HasRows (map role_row content.roles) (db role_tree)
  pub tasks : HasRows (map task_row content.tasks) (db task_tree)
  pub links : HasRows (map link_row content.links) (db link_tree)
  pub instances : HasRows (map instance_row content.instances) (db instance_tree)
  pub gone : HasRows (map gone_row content.gone) (db gone_tree)
  pub kept : HasRows (map kept_row content.kept) (db kept_tree)
  pub horizon : HasKeyed (map horizon_row content.horizon) (db horizon_tree)
  pub history : HasRows (map history_row content.history) (db history_tree)
  pub task_identifiers : HaveIdentifiers content.tasks
  pub kept_identifiers : AreIdentified content.kept
  pub history_identifiers : AreCalled content.history
  pub fits : IsFitting content

-- the trees are the rows of the content, under the schema of a store, which they list and obey
pub record AreRows (content : Content) (db : Trees) : Type 0 where
  pub sound : IsSound store_schema db
  pub tables : AreTables content db

-- a database is the rows of the content
pub record IsContent (content : Content) (db : Database) : Type 0 where
  pub schema : db.schema ≡ store_schema
  pub rows : AreRows content db.trees

-- ---- when the tables of the second version hold it

-- the rows of each table of the second version; it has none for the history of the boards
pub record AreSecondTables (content : Content) (db : Trees) : Type 0 where
  pub meta : HasKeyed (meta_row ∷ []) (db meta_tree)
  pub people : HasKeyed (map person_row content.people) (db person_tree)
  pub boards : HasKeyed (map board_row content.boards) (db board_tree)
  pub roles : HasRows (map role_row content.roles) (db role_tree)
  pub tasks : HasRows (map task_row content.tasks) (db task_tree)
  pub links : HasRows (map link_row content.links) (db link_tree)
  pub instances : HasRows (map instance_row content.instances) (db instance_tree)
  pub gone : HasRows (map gone_row content.gone) (db gone_tree)
  pub kept : HasRows (map kept_row content.kept) (db kept_tree)
  pub horizon : HasKeyed (map horizon_row content.horizon) (db horizon_tree)
  pub task_identifiers : HaveIdentifiers content.tasks
  pub kept_identifiers : AreIdentified content.kept
  pub fits : IsFitting (without_history content)

pub record AreSecondRows (content : Content) (db : Trees) : Type 0 where
  pub sound : IsSound second_schema db
  pub tables : AreSecondTables content db

-- ---- when the tables of the first version hold it

-- the rows of each table of the first version; it has none for what a board has ahead
pub record AreOldTables (content : Content) (db : Trees) : Type 0 where
  pub meta : HasKeyed (old_meta_row ∷ []) (db meta_tree)
  pub people : HasKeyed (map person_row content.people) (db person_tree)
  pub boards : HasKeyed (map board_row content.boards) (db board_tree)
  pub roles : HasRows (map role_row content.roles) (db role_tree)
  pub tasks : HasRows (map task_row content.tasks) (db task_tree)
  pub links : HasRows (map link_row content.links) (db link_tree)
  pub instances : HasRows (map instance_row content.instances) (db instance_tree)
  pub gone : HasRows (map gone_row content.gone) (db gone_tree)
  pub kept : HasRows (map kept_row content.kept) (db kept_tree)
  pub task_identifiers : HaveIdentifiers content.tasks
  pub kept_identifiers : AreIdentified content.kept
  pub fits : IsFitting (old_part content)

pub record AreOldRows (content : Content) (db : Trees) : Type 0 where
  pub sound : IsSound old_schema db
  pub tables : AreOldTables content db

-- the rows of the content, in the tables of one of the versions
abbrev pub AreVersionRows : Content → Trees → Type 0
AreVersionRows content db = AreRows content db ⊎ (AreSecondRows content db ⊎ AreOldRows content db)

-- ---- between transactions

-- While the disk returns what was written: an open connection sees such a database, all of it committed, and a stop leaves such trees.
pub record StandsBy (Seen : Database → Type 0) (Left : Trees → Type 0) (s : State) : Type 0 where
  pub seen : HasCleanDisk s → IsTrue s.is_open → Seen s.now × (s.committed ≡ s.now)
  pub left : HasCleanDisk s → (db : Trees) → s.may_leave db → Left db

-- the content stands
abbrev pub Stands : Content → State → Type 0
Stands content = StandsBy (IsContent content) (AreRows content)

-- one of two contents stands
abbrev pub StandsAsEither : Content → Content → State → Type 0
StandsAsEither before after =
    StandsBy (λ db. IsContent before db ⊎ IsContent after db)
    (λ db. AreRows before db ⊎ AreRows after db)
