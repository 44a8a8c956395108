-- When a connection stands for no tables yet, for those of version 1 or 2, or for either side of a migration.
use Rattle.std.specs.Prelude.{◌≡◌, ◌⊎◌, []}
use Rattle.sqlite_catalog.specs.Listing.{IsSound}
use Rattle.sqlite.specs.Effect.{Database}
use Rattle.sqlite.specs.State.{State}
use Rattle.tb_sql_tables.specs.Tables.{history_tree, horizon_tree, no_schema, old_schema, second_schema, store_schema}
use Rattle.tb_sql_tables.specs.Content.{Content, nothing, AreRows, IsContent, AreSecondRows, AreOldTables, AreOldRows, StandsBy}

pub record IsOldContent (content : Content) (db : Database) : Type 0 where
  pub schema : db.schema ≡ old_schema
  pub rows : AreOldRows content db.trees

pub record IsSecondContent (content : Content) (db : Database) : Type 0 where
  pub schema : db.schema ≡ second_schema
  pub rows : AreSecondRows content db.trees

-- the tables are those of the second version, but hold what those of the first version held, and nothing beside
pub record IsQuarterway (content : Content) (db : Database) : Type 0 where
  pub schema : db.schema ≡ second_schema
  pub tables : AreOldTables content db.trees
  pub no_horizon : db.trees horizon_tree ≡ []

-- the tables are those of a store, but hold what those of the first version held, and nothing beside
pub record IsHalfway (content : Content) (db : Database) : Type 0 where
  pub schema : db.schema ≡ store_schema
  pub sound : IsSound store_schema db.trees
  pub tables : AreOldTables content db.trees
  pub no_horizon : db.trees horizon_tree ≡ []
  pub no_history : db.trees history_tree ≡ []

-- the content stands in the tables of the first version
abbrev pub StandsOld : Content → State → Type 0
StandsOld content = StandsBy (IsOldContent content) (AreOldRows content)

-- the content stands in the tables of the second version
abbrev pub StandsSecond : Content → State → Type 0
StandsSecond content = StandsBy (IsSecondContent content) (AreSecondRows content)

-- the content of the second version stands, or another one in the tables of a store
abbrev pub StandsSecondOr : Content → Content → State → Type 0
StandsSecondOr before after =
    StandsBy (λ db. IsSecondContent before db ⊎ IsContent after db)
    (λ db. AreSecondRows before db ⊎ AreRows after db)

-- the content of the first version stands, or another one in the tables of a store
abbrev pub StandsOldOr : Content → Content → State → Type 0
StandsOldOr before after =
    StandsBy (λ db. IsOldContent before db ⊎ IsContent after db)
    (λ db. AreOldRows before db ⊎ AreRows after db)

abbrev pub HasNoTables : Database → Type 0
HasNoTables db = db.schema ≡ no_schema

-- there is no table
abbrev pub StandsEmpty : State → Type 0
StandsEmpty = StandsBy HasNoTables (IsSound no_schema)

-- there is no table, or the content stands
abbrev pub StandsEmptyOr : Content → State → Type 0
StandsEmptyOr content =
    StandsBy (λ db. HasNoTables db ⊎ IsContent content db)
    (λ db. IsSound no_schema db ⊎ AreRows content db)

-- there is no table, or the content stands in those of the first version
abbrev pub StandsEmptyOrOld : Content → State → Type 0
StandsEmptyOrOld content =
    StandsBy (λ db. HasNoTables db ⊎ IsOldContent content db)
    (λ db. IsSound no_schema db ⊎ AreOldRows content db)
