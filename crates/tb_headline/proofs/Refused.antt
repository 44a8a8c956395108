-- Why no session begins over a database: what the making and the opening of a store tell is handed on.
use Rattle.std.proofs.Common.{◌≡◌, ◌&&◌, Bool, true, false, List, [], ◌∷◌, Result, Err, inl, inr, refl}
use Rattle.std.specs.Prelude.{◌⊎◌}
use Rattle.sqlite.specs.Held.{Held, state}
use Rattle.sqlite.specs.State.{HasCleanDisk, State as Database}
use Rattle.sqlite_schema.specs.declared.schema.Schema.{Schema}
use Rattle.sqlite_schema.specs.declared.schema.Table.{Table}
use Rattle.sqlite_trees.specs.declared.store.Store.{Ghosts}
use Rattle.tb_calls.specs.Call.{State}
use Rattle.tb_keeper.specs.declared.creating.CreateFault.{CreateFault}
use Rattle.tb_keeper.specs.declared.creating.CreateFault.TheVariants.{NotEmpty, Store as MakingFailed, Memory as MakingMemory}
use Rattle.tb_sql.specs.declared.opening.OpenFault.{OpenFault}
use Rattle.tb_sql.specs.declared.opening.OpenFault.TheVariants.{NotOurs, WrongVersion, Store, Memory}
use Rattle.tb_sql.specs.declared.opening.Version.{Version}
use Rattle.tb_sql.specs.declared.opening.Version.TheVariants.{First, Second, Third}
use Rattle.tb_sql.specs.Opening.{HidesNone, IsAnswered, are_old, are_ours, are_second, are_tables, has_key_indexes, has_meta, has_tables, is_meta, is_person, is_board, is_role, is_task, is_link, is_instance, is_gone, is_kept, is_horizon, is_history}
use Rattle.tb_sql_tables.specs.Content.{AreRows, AreVersionRows, Content}
use Rattle.tb_sql_tables.specs.Standing.{StandsEmpty}
use Rattle.tb_sql_tables.specs.Failing.{FailsByFault, IsAtRest}
use Rattle.tb_lookup.specs.Migrating.{IsEmptyOrStored}
use Rattle.tb_headline.specs.Refusals.{HasMeta, IsFilled, IsRefused, IsUnmade, Says}
use Rattle.tb_headline.specs.Headline.{IsFileOf}

-- ---- the first table

first_true : (p q : Bool) → (p && q) ≡ true → p ≡ true
first_true true q is = refl
first_true false q is = is

first_of : (tests : List (Table → Bool)) (tables : List Table) → are_tables (is_meta ∷ tests) tables ≡ true → has_meta tables ≡ true
first_of tests [] is = is
first_of tests (table ∷ tables) is = first_true (is_meta table) _ is

-- it is among the tables of a store of each version
pub has_first : (version : Version) (schema : Schema) → has_tables version schema ≡ true → has_meta schema.tables ≡ true
has_first First schema is =
    first_of (is_person ∷ is_board ∷ is_role ∷ is_task ∷ is_link ∷ is_instance ∷ is_gone ∷ is_kept ∷ []) schema.tables
    (first_true (are_old schema.tables) (has_key_indexes 9 schema) is)
has_first Second schema is =
    first_of (is_person ∷ is_board ∷ is_role ∷ is_task ∷ is_link ∷ is_instance ∷ is_gone ∷ is_kept ∷ is_horizon ∷ []) schema.tables
    (first_true (are_second schema.tables) (has_key_indexes 9 schema) is)
has_first Third schema is =
    first_of (is_person ∷ is_board ∷ is_role ∷ is_task ∷ is_link ∷ is_instance ∷ is_gone ∷ is_kept ∷ is_horizon ∷ is_history ∷ []) schema.tables
    (first_true (are_ours schema.tables) (has_key_indexes 11 schema) is)

-- only what isn't ours may lack it
marked : (b : Bool) (fault : OpenFault) → (b ≡ false → fault ≡ NotOurs) → (fault ≡ NotOurs → ⊥) → b ≡ true
marked true fault unmarked other = refl
marked false fault unmarked other = absurd (other (unmarked refl))

-- ---- what is told

-- a database that is told to be no store of this version
abbrev IsForeign : OpenFault → Type 0
IsForeign fault = (fault ≡ NotOurs) ⊎ (fault ≡ WrongVersion)

module _ {S : Type 0} (g : Ghosts S) (conn : Held S) where
  -- an answer that tells of no failure is what the tables and the rows say
  pub said : (answer : Result Version OpenFault) → (answer ≡ Err Store → ⊥) → (answer ≡ Err Memory → ⊥) → IsAnswered g conn answer → Says g conn answer
  said answer held room (inl found) = record { rows = found.0; shown = found.1; is = found.2 }
  said answer held room (inr (inl is)) = absurd (held is)
  said answer held room (inr (inr is)) = absurd (room is)

  no_state : ((content : Content) → AreVersionRows content (state g conn).now.trees → ⊥)
      → (s : State) → IsFileOf s (state g conn).now.trees → ⊥
  no_state foreign s (inl rows) = foreign rows.content (inl rows.stored)
  no_state foreign s (inr (inl rows)) = foreign rows.content (inr (inr rows.stored))
  no_state foreign s (inr (inr rows)) = foreign rows.content (inr (inl rows.stored))

  pub refused : (new : Database) (fault : OpenFault)
      → (IsForeign fault → HasCleanDisk new → IsAtRest (state g conn)
      → (content : Content) → AreVersionRows content (state g conn).now.trees → ⊥)
      → (has_meta (state g conn).now.schema.tables ≡ false → fault ≡ NotOurs)
      → (IsForeign fault → HasCleanDisk new → HasMeta g conn → IsAnswered g conn (Err fault))
      → (fault ≡ Store → IsAtRest (state g conn) → FailsByFault (state g conn) new (λ content. AreRows content (state g conn).now.trees))
      → (fault ≡ Store → HidesNone (state g conn) new)
      → IsRefused g conn new fault
  refused new NotOurs foreign unmarked shown excused hides = λ clean. (
    λ opens. no_state (foreign (inl refl) clean opens),
    λ meta. said (Err NotOurs) (λ is. absurd (cc)) (λ is. absurd (cc)) (shown (inl refl) clean meta),
  )
  refused new WrongVersion foreign unmarked shown excused hides =
      let meta = marked (has_meta (state g conn).now.schema.tables) WrongVersion unmarked (λ is. absurd (cc)) in (
        meta,
        λ clean. (
          λ opens. no_state (foreign (inr refl) clean opens),
          said (Err WrongVersion) (λ is. absurd (cc)) (λ is. absurd (cc)) (shown (inr refl) clean meta),
        ),
      )
  refused new Store foreign unmarked shown excused hides = (
    marked (has_meta (state g conn).now.schema.tables) Store unmarked (λ is. absurd (cc)),
    (λ clean opens ready s rows. excused refl opens clean ready rows.content rows.stored, hides refl),
  )
  refused new Memory foreign unmarked shown excused hides = marked (has_meta (state g conn).now.schema.tables) Memory unmarked (λ is. absurd (cc))

  -- what is left where no store is made
  pub unmade : (first : State) (left : Held S) (fault : CreateFault) → (fault ≡ NotEmpty → (left ≡ conn) × IsFilled (state g conn))
      → (fault ≡ MakingMemory → IsAtRest (state g conn) → StandsEmpty (state g left))
      → (fault ≡ MakingFailed → IsAtRest (state g conn) → IsEmptyOrStored first (state g left)) → IsUnmade g first conn left fault
  unmade first left NotEmpty taken memory store = taken refl
  unmade first left MakingFailed taken memory store = store refl
  unmade first left MakingMemory taken memory store = memory refl
