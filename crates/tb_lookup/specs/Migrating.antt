-- What a file holds while it is made, and while it is brought from version 1 or 2 to today's tables.
use Rattle.std.specs.Prelude.{◌≡◌, ◌⊎◌, false}
use Rattle.sqlite.specs.State.{State as Database}
use Rattle.tb_calls.specs.Call.{State}
use Rattle.tb_sql_tables.specs.Content.{Content}
use Rattle.tb_sql_tables.specs.Standing.{StandsEmptyOr, StandsEmptyOrOld, StandsOld, StandsOldOr, StandsSecond, StandsSecondOr}
use Rattle.tb_lookup.specs.Stored.{AreRowsOf, AreOldRowsOf, AreSecondRowsOf}

-- there is no table, or it holds the rows of the state
pub record IsEmptyOrStored (s : State) (d : Database) : Type 0 where
  pub content : Content
  pub rows : AreRowsOf s content
  pub stands : StandsEmptyOr content d

-- the database holds the rows of the state in the tables of the first version, and a stop leaves them
pub record IsStoredOld (s : State) (d : Database) : Type 0 where
  pub content : Content
  pub rows : AreOldRowsOf s content
  pub stands : StandsOld content d
  pub idle : d.in_transaction ≡ false

-- the same in the tables of the second version
pub record IsStoredSecond (s : State) (d : Database) : Type 0 where
  pub content : Content
  pub rows : AreSecondRowsOf s content
  pub stands : StandsSecond content d
  pub idle : d.in_transaction ≡ false

-- it holds the rows of the state, and a stop leaves them, all of them in the tables of the first version or in today's
pub record IsStoredInFirst (s : State) (d : Database) : Type 0 where
  pub before : Content
  pub after : Content
  pub rows_before : AreOldRowsOf s before
  pub rows_after : AreRowsOf s after
  pub stands : StandsOldOr before after d

-- the same in the tables of the second version or in today's
pub record IsStoredInSecond (s : State) (d : Database) : Type 0 where
  pub before : Content
  pub after : Content
  pub rows_before : AreSecondRowsOf s before
  pub rows_after : AreRowsOf s after
  pub stands : StandsSecondOr before after d

-- it holds them in the tables of a version before or in today's
abbrev pub IsStoredInEither : State → Database → Type 0
IsStoredInEither s d = IsStoredInFirst s d ⊎ IsStoredInSecond s d

-- there is no table, or it holds the rows of the state in those of the first version
pub record IsEmptyOrStoredOld (s : State) (d : Database) : Type 0 where
  pub content : Content
  pub rows : AreOldRowsOf s content
  pub stands : StandsEmptyOrOld content d
