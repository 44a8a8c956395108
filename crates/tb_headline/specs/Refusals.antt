-- Why no session begins over a database, and what is left then.
use Rattle.std.specs.Prelude.{◌≡◌, true, List, Result, Err}
use Rattle.sqlite.specs.Held.{Held, state}
use Rattle.sqlite.specs.State.{State as Database}
use Rattle.sqlite_trees.specs.declared.store.Store.{Ghosts}
use Rattle.tb_calls.specs.Call.{State}
use Rattle.tb_keeper.specs.declared.creating.CreateFault.{CreateFault}
use Rattle.tb_keeper.specs.declared.creating.CreateFault.TheVariants.{NotEmpty, Store as MakingFailed, Memory as MakingMemory}
use Rattle.tb_sql.specs.declared.opening.OpenFault.{OpenFault}
use Rattle.tb_sql.specs.declared.opening.OpenFault.TheVariants.{NotOurs, WrongVersion, Store, Memory}
use Rattle.tb_sql.specs.declared.opening.Version.{Version}
use Rattle.tb_sql.specs.Opening.{AreShownFrom, HidesNone, has_meta, taken}
use Rattle.tb_sql_tables.specs.declared.rows.MetaRow.{MetaRow}
use Rattle.tb_sql_tables.specs.Standing.{StandsEmpty}
use Rattle.tb_sql_tables.specs.Failing.{HasFaulted, IsReady, IsAtRest}
use Rattle.tb_sql_tables.specs.Tables.{no_schema}
use Rattle.tb_lookup.specs.Stored.{AreTreesOf}
use Rattle.tb_lookup.specs.Migrating.{IsEmptyOrStored}
use Rattle.tb_headline.specs.Headline.{IsFileOf, WhileHonest}

-- ---- a database that should be a store

-- it is no store of this version or the first: there is no state whose rows are in it
abbrev pub HoldsNoState : Database → Type 0
HoldsNoState d = IsAtRest d → (s : State) → IsFileOf s d.now.trees → ⊥

-- where it is a store of this version, and no limit is set on the steps of a query, the disk has failed or refused a call since
abbrev pub FailsByDisk : Database → Database → Type 0
FailsByDisk old new = IsAtRest old → IsReady old → (s : State) → AreTreesOf s old.now.trees
    → HasFaulted old new

module _ {S : Type 0} (g : Ghosts S) where
  -- the first of its tables is the one that tells what a store is
  abbrev pub HasMeta : Held S → Type 0
  HasMeta conn = has_meta (state g conn).now.schema.tables ≡ true

  -- the tables, and the rows of the first that a query shows, say this of it
  pub record Says (conn : Held S) (said : Result Version OpenFault) : Type 0 where
    pub rows : List MetaRow
    pub shown : AreShownFrom g conn rows
    pub is : said ≡ taken conn.schema rows

  -- Why it isn't opened, by each fault: it isn't a store, as its tables or their first rows say; it is one of another version, as
  -- they say; the disk failed, of whatever version it is; memory was wanting. Where the first table isn't there, it is the first of these.
  abbrev pub IsRefused : Held S → Database → OpenFault → Type 0
  IsRefused conn new NotOurs =
      WhileHonest new (HoldsNoState (state g conn) × (HasMeta conn → Says conn (Err NotOurs)))
  IsRefused conn new WrongVersion = HasMeta conn
      × WhileHonest new (HoldsNoState (state g conn) × Says conn (Err WrongVersion))
  IsRefused conn new Store = HasMeta conn
      × (WhileHonest new (FailsByDisk (state g conn) new) × HidesNone (state g conn) new)
  IsRefused conn new Memory = HasMeta conn

-- ---- a database that should be empty

-- there is a table, an index or a view
abbrev pub IsFilled : Database → Type 0
IsFilled d = d.now.schema ≡ no_schema → ⊥

module _ {S : Type 0} (g : Ghosts S) where
  -- What is left where no store of this first state is made, by each fault: a database that wasn't empty, as it was; where the
  -- database failed, one that is still empty or that holds the state; where memory was wanting, one that is still empty.
  abbrev pub IsUnmade : State → Held S → Held S → CreateFault → Type 0
  IsUnmade first old new NotEmpty = (new ≡ old) × IsFilled (state g old)
  IsUnmade first old new MakingFailed = IsAtRest (state g old) → IsEmptyOrStored first (state g new)
  IsUnmade first old new MakingMemory = IsAtRest (state g old) → StandsEmpty (state g new)
