-- Which databases are taken as a store.
use Rattle.std.specs.Prelude.{◌≡◌, ◌≢◌, ◌<◌, ◌⊎◌, ◌&&◌, ◌==◌, if◌then◌else◌, ℕ, pos, Bool, true, false, List, [], ◌∷◌, length, codes, bytes_eq, IsTrue, map, IsPermutation, Result, Ok, Err}
use Rattle.sqlite_value.specs.declared.value.Value.TheVariants.{Null, Int, Text as Words}
use Rattle.sqlite_value.specs.Order.{Row}
use Rattle.sqlite_trees.specs.declared.store.Store.{Ghosts}
use Rattle.sqlite_trees.specs.Tree.{Trees}
use Rattle.sqlite_schema.specs.declared.schema.Column.{Column}
use Rattle.sqlite_schema.specs.declared.schema.Kind.{Kind}
use Rattle.sqlite_schema.specs.declared.schema.Kind.TheVariants.{Integer, Text, Blob}
use Rattle.sqlite_schema.specs.declared.schema.Table.{Table}
use Rattle.sqlite_schema.specs.declared.schema.Schema.{Schema}
use Rattle.sqlite_schema.specs.Names.{same_name}
use Rattle.sqlite.specs.Effect.{Database}
use Rattle.sqlite.specs.Held.{Held, state}
use Rattle.sqlite.specs.State.{State, HasCleanDisk, Shown}
use Rattle.sqlite.specs.declared.error.ErrorCode.TheVariants.{OutOfMemory}
use Rattle.sqlite.specs.declared.error.Error.{Error}
use Rattle.sqlite.specs.declared.error.Error.TheVariants.{SqliteFailure}
use Rattle.tb_sql_tables.specs.declared.rows.MetaRow.{MetaRow}
use Rattle.tb_sql_tables.specs.Tables.{meta_tree, old_schema, second_schema, store_schema}
use Rattle.tb_sql_tables.specs.Content.{HasKeyed}
use Rattle.tb_sql_tables.specs.Failing.{HasFaulted, IsReady}
use Rattle.tb_sql_tables.specs.Read.{meta_of}
use Rattle.tb_sql.specs.declared.opening.OpenFault.{OpenFault}
use Rattle.tb_sql.specs.declared.opening.Version.{Version}
use Rattle.tb_sql.specs.declared.opening.Version.TheVariants.{First, Second, Third}
use Rattle.tb_sql.specs.declared.opening.Number.{Number}
use Rattle.tb_sql.specs.declared.opening.Number.TheVariants.{One, Two}
use Rattle.tb_sql.specs.declared.opening.OpenFault.TheVariants.{NotOurs, WrongVersion, Store, Memory}

-- ---- the tables, by their names and the names and types of their columns

abbrev pub is_integer : Kind → Bool
is_integer Integer = true
is_integer _ = false

abbrev pub is_text : Kind → Bool
is_text Text = true
is_text _ = false

abbrev pub is_blob : Kind → Bool
is_blob Blob = true
is_blob _ = false

-- the columns have these names and types, in this order
abbrev pub are_columns : List (List ℕ × (Kind → Bool)) → List Column → Bool
are_columns [] [] = true
are_columns [] (c ∷ cs) = false
are_columns (e ∷ es) [] = false
are_columns (e ∷ es) (c ∷ cs) = (same_name c.name e.0 && e.1 c.kind) && are_columns es cs

unfoldable pub is_meta : Table → Bool
is_meta table = same_name table.name (codes "meta")
    && are_columns ((codes "one", is_integer) ∷ (codes "kind", is_text)
    ∷ (codes "version", is_integer) ∷ []) table.columns

unfoldable pub is_person : Table → Bool
is_person table =
    same_name table.name (codes "person")
    && are_columns ((codes "id", is_integer) ∷ (codes "name", is_text) ∷ (codes "secret", is_text)
    ∷ []) table.columns

unfoldable pub is_board : Table → Bool
is_board table =
    same_name table.name (codes "board")
    && are_columns ((codes "id", is_integer) ∷ (codes "title", is_text) ∷ (codes "low", is_integer)
    ∷ []) table.columns

unfoldable pub is_role : Table → Bool
is_role table = same_name table.name (codes "role")
    && are_columns ((codes "board", is_integer) ∷ (codes "person", is_integer)
    ∷ (codes "kind", is_integer) ∷ []) table.columns

unfoldable pub is_task : Table → Bool
is_task table = same_name table.name (codes "task")
    && are_columns ((codes "board", is_integer) ∷ (codes "place", is_integer)
    ∷ (codes "uuid", is_blob) ∷ (codes "body", is_text) ∷ (codes "mask", is_text) ∷ [])
    table.columns

unfoldable pub is_link : Table → Bool
is_link table = same_name table.name (codes "link")
    && are_columns ((codes "board", is_integer) ∷ (codes "place", is_integer)
    ∷ (codes "target", is_integer) ∷ []) table.columns

unfoldable pub is_instance : Table → Bool
is_instance table =
    same_name table.name (codes "instance")
    && are_columns ((codes "board", is_integer) ∷ (codes "template", is_integer)
    ∷ (codes "imask", is_integer) ∷ (codes "place", is_integer) ∷ []) table.columns

unfoldable pub is_gone : Table → Bool
is_gone table = same_name table.name (codes "gone")
    && are_columns ((codes "board", is_integer) ∷ (codes "template", is_integer)
    ∷ (codes "imask", is_integer) ∷ (codes "mark", is_text) ∷ []) table.columns

unfoldable pub is_kept : Table → Bool
is_kept table = same_name table.name (codes "kept")
    && are_columns ((codes "person", is_integer) ∷ (codes "id", is_blob)
    ∷ (codes "content", is_blob) ∷ (codes "number", is_integer) ∷ (codes "status", is_integer)
    ∷ (codes "body", is_text) ∷ []) table.columns

unfoldable pub is_horizon : Table → Bool
is_horizon table =
    same_name table.name (codes "horizon")
    && are_columns ((codes "board", is_integer) ∷ (codes "ahead", is_integer) ∷ []) table.columns

unfoldable pub is_history : Table → Bool
is_history table = same_name table.name (codes "history")
    && are_columns ((codes "board", is_integer) ∷ (codes "number", is_integer)
    ∷ (codes "moment", is_integer) ∷ (codes "person", is_integer) ∷ (codes "call", is_blob)
    ∷ (codes "what", is_integer) ∷ (codes "task", is_integer) ∷ []) table.columns

-- the first of the tables tells what the file is
abbrev pub has_meta : List Table → Bool
has_meta [] = false
has_meta (table ∷ tables) = is_meta table

-- each of these tests finds its table, in this order
abbrev pub are_tables : List (Table → Bool) → List Table → Bool
are_tables [] [] = true
are_tables [] (t ∷ ts) = false
are_tables (p ∷ ps) [] = false
are_tables (p ∷ ps) (t ∷ ts) = p t && are_tables ps ts

-- the tables are those of a store, in the order in which they are made
abbrev pub are_ours : List Table → Bool
are_ours = are_tables
    (is_meta ∷ is_person ∷ is_board ∷ is_role ∷ is_task ∷ is_link ∷ is_instance ∷ is_gone ∷ is_kept
    ∷ is_horizon ∷ is_history ∷ [])

-- the same for a store of the second version
abbrev pub are_second : List Table → Bool
are_second = are_tables
    (is_meta ∷ is_person ∷ is_board ∷ is_role ∷ is_task ∷ is_link ∷ is_instance ∷ is_gone ∷ is_kept
    ∷ is_horizon ∷ [])

-- the same for a store of the first version
abbrev pub are_old : List Table → Bool
are_old = are_tables
    (is_meta ∷ is_person ∷ is_board ∷ is_role ∷ is_task ∷ is_link ∷ is_instance ∷ is_gone
    ∷ is_kept ∷ [])

-- beside the tables are the indexes of their keys alone, which are so many
abbrev pub has_key_indexes : ℕ → Schema → Bool
has_key_indexes count schema = (length schema.indexes == count) && (length schema.views == 0)

-- the tables are those of a store, and nothing else is there
abbrev pub is_ours : Schema → Bool
is_ours schema = are_ours schema.tables && has_key_indexes 11 schema

-- the same for a store of the second version
abbrev pub is_second : Schema → Bool
is_second schema = are_second schema.tables && has_key_indexes 9 schema

-- the same for a store of the first version
abbrev pub is_old : Schema → Bool
is_old schema = are_old schema.tables && has_key_indexes 9 schema

abbrev pub by_version : Version → Bool → Bool → Bool → Bool
by_version First first second third = first
by_version Second first second third = second
by_version Third first second third = third

-- the tables are those of this version
abbrev pub has_tables : Version → Schema → Bool
has_tables version schema = by_version version (is_old schema) (is_second schema) (is_ours schema)

-- ---- what the file is

abbrev pub our_meta : MetaRow
our_meta = record { kind = codes "taskboard"; version = 2 }

abbrev pub old_meta : MetaRow
old_meta = record { kind = codes "taskboard"; version = 1 }

-- a row of the first table, with its rowid
abbrev pub row_of_meta : MetaRow → Row
row_of_meta meta = Int (pos 1) ∷ Null ∷ Words meta.kind ∷ Int (pos meta.version) ∷ []

-- the tables are those of a store, of one of the versions
abbrev pub IsOfStore : Schema → Type 0
IsOfStore schema = (schema ≡ store_schema) ⊎ ((schema ≡ second_schema) ⊎ (schema ≡ old_schema))

-- where the tables are those of a store, these are the rows of the first
abbrev pub AreMetas : Database → List MetaRow → Type 0
AreMetas db metas = IsOfStore db.schema → (rows : List MetaRow)
    → HasKeyed (map row_of_meta rows) (db.trees meta_tree) → IsPermutation rows metas

-- the second version and the third have one number
abbrev pub number_of : ℕ → Result Number OpenFault
number_of number = if number == 2 then Ok Two
    else (if number == 1 then Ok One else Err WrongVersion)

-- what the rows of the first table say: one row names a store and its number
-- Rule: one row has kind and version. Refused as NotOurs or WrongVersion. Tried by strange_files.
abbrev pub judged : List MetaRow → Result Number OpenFault
judged [] = Err NotOurs
judged (meta ∷ []) = if bytes_eq meta.kind (codes "taskboard") then number_of meta.version
    else Err NotOurs
judged (a ∷ b ∷ metas) = Err NotOurs

-- the version of this number whose tables are there
abbrev pub chosen : Number → Bool → Bool → Bool → Result Version OpenFault
chosen One first second third = if first then Ok First else Err NotOurs
chosen Two first second third = if third then Ok Third
    else (if second then Ok Second else Err NotOurs)

-- a store is taken only where the tables of a version of that number are there, and nothing else
abbrev pub if_there : Schema → Result Number OpenFault → Result Version OpenFault
if_there schema (Ok number) =
    chosen number (is_old schema) (is_second schema) (is_ours schema)
if_there schema (Err fault) = Err fault

-- what the tables and those rows say
abbrev pub taken : Schema → List MetaRow → Result Version OpenFault
taken schema metas = if_there schema (judged metas)

-- the answer is this one, unless the database fails or memory is wanting
abbrev pub Answers : Result Version OpenFault → Result Version OpenFault → Type 0
Answers wanted answer = (answer ≡ wanted) ⊎ ((answer ≡ Err Store) ⊎ (answer ≡ Err Memory))

-- ---- what a look finds in any database that has the first table

abbrev pub meta_text : List ℕ
meta_text = codes "SELECT kind, version FROM meta"

-- the query of the first table shows these rows
pub record AreShown (old new : State) (metas : List MetaRow) : Type 0 where
  pub rows : List Row
  pub shown : Shown meta_text [] old new rows
  pub read : metas ≡ map meta_of rows

module _ {S : Type 0} (g : Ghosts S) where
  -- the query shows these rows in a transaction that begins here
  abbrev pub AreShownFrom : Held S → List MetaRow → Type 0
  AreShownFrom conn metas = (later : Held S)
      × AreShown (state g (record conn { in_transaction = true })) (state g later) metas

  -- the answer is what the tables and the rows say, unless the database fails or memory is wanting
  abbrev pub IsAnswered : Held S → Result Version OpenFault → Type 0
  IsAnswered conn answer =
      ((metas : List MetaRow) × AreShownFrom conn metas × (answer ≡ taken conn.schema metas))
      ⊎ ((answer ≡ Err Store) ⊎ (answer ≡ Err Memory))

-- ---- a store of whatever version

-- today's tables are there, and the one row of the first names a store and this version
pub record IsOfVersion (version : ℕ) (db : Database) : Type 0 where
  pub schema : db.schema ≡ store_schema
  pub row : HasKeyed (row_of_meta (record { kind = codes "taskboard"; version = version }) ∷ [])
      (db.trees meta_tree)
  pub fits : version < 4294967296

-- its version is read, unless memory is wanting, or the disk has failed or refused a call since
abbrev pub ReadsVersion : State → State → Error → Type 0
ReadsVersion old new e = e ≢ SqliteFailure OutOfMemory → IsReady old → (version : ℕ)
    → IsOfVersion version old.now → HasFaulted old new

-- one of another version isn't told as failed, unless the disk has failed or refused a call since
abbrev pub HidesNone : State → State → Type 0
HidesNone old new = HasCleanDisk new → IsReady old → (version : ℕ) → version ≢ 2
    → IsOfVersion version old.now → HasFaulted old new

-- ---- what a look leaves

-- The last commit stands, and a stop leaves what it left before.
pub record IsAsBefore (old new : State) : Type 0 where
  pub clean : HasCleanDisk new → HasCleanDisk old
  pub was_open : HasCleanDisk new → IsTrue new.is_open → IsTrue old.is_open
  pub seen : HasCleanDisk new → IsTrue new.is_open → old.committed ≡ old.now
      → (new.now ≡ old.now) × (new.committed ≡ old.now)
  pub left : HasCleanDisk new → (db : Trees) → new.may_leave db → old.may_leave db
