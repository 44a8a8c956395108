-- What statements do within a transaction.
use Rattle.std.specs.Prelude.{◌≡◌, List, [], ℕ, true, IsTrue, Ok}
use Rattle.std.specs.List.{AllByRecursion}
use Rattle.sqlite_value.specs.Order.{Row}
use Rattle.sqlite_schema.specs.declared.schema.Schema.{Schema}
use Rattle.sqlite.specs.Effect.{Database}
use Rattle.sqlite.specs.State.{State, Shows, ExecutesInside}
use Rattle.tb_sql_tables.specs.Content.{Content, IsContent}

-- The transaction goes on, the last commit stands, and the content that the transaction sees is changed.
pub record Changes (change : Content → Content) (old new : State) : Type 0 where
  pub shown : Shows old new new.now old.committed true
  pub content : (content : Content) → IsContent content old.now → IsContent (change content) new.now

-- the database has this schema, and each table is empty
pub record AreEmpty (schema : Schema) (db : Database) : Type 0 where
  pub schema_is : db.schema ≡ schema
  pub empty : AllByRecursion (λ table. db.trees table.tree ≡ []) schema.tables

-- The transaction goes on, and of a database where `Was` holds it makes one where `Becomes` holds.
pub record Turns (Was Becomes : Database → Type 0) (old new : State) : Type 0 where
  pub shown : Shows old new new.now old.committed true
  pub made : Was old.now → Becomes new.now

-- the text ran, with these parameters
abbrev pub Ran : List ℕ → Row → State → State → Type 0
Ran text params old new = (count : ℕ) × ExecutesInside 0 text params old new (Ok count)

-- what a query finds in the content that the transaction sees
pub record Finds (P : Content → Type 0) (old : State) : Type 0 where
  pub was_open : IsTrue old.is_open
  pub found : (content : Content) → IsContent content old.now → P content
