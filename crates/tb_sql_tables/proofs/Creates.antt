-- What the statements that make the tables do.
use Rattle.std.proofs.Common.{◌≡◌, ◌≢◌, ◌+◌, ◌<◌, ℕ, pos, List, [], ◌∷◌, ◌++◌, codes, false, None, Ok, OnOk, Result, refl, sym, ap, subst, ◌∙◌, arith}
use Rattle.std.specs.List.{AllByRecursion}
use Rattle.std.proofs.lemmas.List.Sorted.{IsPermutation-refl}
use Rattle.sqlite_value.specs.declared.value.Value.TheVariants.{Null, Int, Text}
use Rattle.sqlite_value.specs.Order.{Row}
use Rattle.sqlite_trees.specs.Tree.{Trees}
use Rattle.sqlite_sql.specs.Term.{Term, lit}
use Rattle.sqlite_schema.specs.declared.schema.Schema.{Schema}
use Rattle.sqlite_schema.specs.declared.schema.Table.{Table}
use Rattle.sqlite_schema.specs.declared.command.Command.TheVariants.{CreateTable, Insert}
use Rattle.sqlite_schema.specs.declared.command.Source.TheVariants.{Values}
use Rattle.sqlite_resolve.specs.Compile.{table_defined_by}
use Rattle.sqlite_catalog.specs.Change.{created, next_tree, KeepsRows}
use Rattle.sqlite_catalog.specs.Listing.{IsSound}
use Rattle.sqlite_tied.specs.Compute.{everything}
use Rattle.sqlite.specs.Effect.{Database}
use Rattle.sqlite.specs.Does.{Tally, lacks_sequence}
use Rattle.sqlite.specs.Listing.{understood}
use Rattle.sqlite.specs.State.{State, Writes}
use Rattle.sqlite.specs.Given.{IsPlain}
use Rattle.sqlite.proofs.Callers.{command_of, statement_of, runs_as}
use Rattle.tb_sql_tables.specs.Tables.{meta_plain, history_tree, horizon_tree, meta_tree, create_meta_text, create_person_text, create_board_text, create_role_text, create_task_text, create_link_text, create_instance_text, create_gone_text, create_kept_text, create_horizon_text, create_history_text, meta_table, person_table, board_table, role_table, task_table, link_table, instance_table, gone_table, kept_table, horizon_table, history_table, no_schema, meta_schema, person_schema, board_schema, role_schema, task_schema, link_schema, instance_schema, gone_schema, old_schema, second_schema, store_schema}
use Rattle.tb_sql_tables.specs.Rows.{meta_row, version_row}
use Rattle.tb_sql_tables.specs.Content.{nothing, without_history, Content, AreTables, AreOldTables, IsContent, IsFitting, HasRows, HasKeyed}
use Rattle.tb_sql_tables.specs.Statements.{AreEmpty, Ran, Turns}
use Rattle.tb_sql_tables.specs.Standing.{IsHalfway, IsQuarterway, IsOldContent, IsSecondContent}
use Rattle.tb_sql_tables.proofs.Inserts.{went, same_value, cast_integer, cast_null}
use Rattle.tb_sql_tables.proofs.Keyed.{keyed_put}
use Rattle.tb_sql_tables.proofs.Statements.{Means, MeansIn, row_inserted, row_inserted_in}
use Rattle.tb_sql_tables.proofs.Trees.{old_quiet}

-- the text makes this table, whose tree gets its number only then, under this schema
record MakesTable (before : Schema) (text : List ℕ) (table : Table) : Type 0 where
  command : command_of (understood before text) ≡ CreateTable
  statement : statement_of text (understood before text) ≡ text
  plain : IsPlain (understood before text)
  defined : table_defined_by text ≡ Ok (record table { tree = 0 })
  counted : lacks_sequence (created before (record table { tree = 0 })) ≡ false

defines_meta : table_defined_by create_meta_text ≡ Ok (record meta_table { tree = 0 })
unfolding understood everything
defines_meta = refl

makes_meta : MakesTable no_schema create_meta_text meta_table
unfolding understood everything
makes_meta = record { command = refl; statement = refl; plain = (refl, refl); defined = defines_meta; counted = refl }

defines_person : table_defined_by create_person_text ≡ Ok (record person_table { tree = 0 })
unfolding understood everything
defines_person = refl

makes_person : MakesTable meta_schema create_person_text person_table
unfolding understood everything
makes_person = record { command = refl; statement = refl; plain = (refl, refl); defined = defines_person; counted = refl }

defines_board : table_defined_by create_board_text ≡ Ok (record board_table { tree = 0 })
unfolding understood everything
defines_board = refl

makes_board : MakesTable person_schema create_board_text board_table
unfolding understood everything
makes_board = record { command = refl; statement = refl; plain = (refl, refl); defined = defines_board; counted = refl }

defines_role : table_defined_by create_role_text ≡ Ok (record role_table { tree = 0 })
unfolding understood everything
defines_role = refl

makes_role : MakesTable board_schema create_role_text role_table
unfolding understood everything
makes_role = record { command = refl; statement = refl; plain = (refl, refl); defined = defines_role; counted = refl }

defines_task : table_defined_by create_task_text ≡ Ok (record task_table { tree = 0 })
unfolding understood everything
defines_task = refl

makes_task : MakesTable role_schema create_task_text task_table
unfolding understood everything
makes_task = record { command = refl; statement = refl; plain = (refl, refl); defined = defines_task; counted = refl }

defines_link : table_defined_by create_link_text ≡ Ok (record link_table { tree = 0 })
unfolding understood everything
defines_link = refl

makes_link : MakesTable task_schema create_link_text link_table
unfolding understood everything
makes_link = record { command = refl; statement = refl; plain = (refl, refl); defined = defines_link; counted = refl }

defines_instance : table_defined_by create_instance_text ≡ Ok (record instance_table { tree = 0 })
unfolding understood everything
defines_instance = refl

makes_instance : MakesTable link_schema create_instance_text instance_table
unfolding understood everything
makes_instance = record { command = refl; statement = refl; plain = (refl, refl); defined = defines_instance; counted = refl }

defines_gone : table_defined_by create_gone_text ≡ Ok (record gone_table { tree = 0 })
unfolding understood everything
defines_gone = refl

makes_gone : MakesTable instance_schema create_gone_text gone_table
unfolding understood everything
makes_gone = record { command = refl; statement = refl; plain = (refl, refl); defined = defines_gone; counted = refl }

defines_kept : table_defined_by create_kept_text ≡ Ok (record kept_table { tree = 0 })
unfolding understood everything
defines_kept = refl

makes_kept : MakesTable gone_schema create_kept_text kept_table
unfolding understood everything
makes_kept = record { command = refl; statement = refl; plain = (refl, refl); defined = defines_kept; counted = refl }

defines_horizon : table_defined_by create_horizon_text ≡ Ok (record horizon_table { tree = 0 })
unfolding understood everything
defines_horizon = refl

makes_horizon : MakesTable old_schema create_horizon_text horizon_table
unfolding understood everything
makes_horizon = record { command = refl; statement = refl; plain = (refl, refl); defined = defines_horizon; counted = refl }

defines_history : table_defined_by create_history_text ≡ Ok (record history_table { tree = 0 })
unfolding understood everything
defines_history = refl

makes_history : MakesTable second_schema create_history_text history_table
unfolding understood everything
makes_history = record { command = refl; statement = refl; plain = (refl, refl); defined = defines_history; counted = refl }

-- tables that are there stay empty
still_empty : (tables : List Table) (old new : Trees) → KeepsRows tables old new → AllByRecursion (λ t. old t.tree ≡ []) tables → AllByRecursion (λ t. new t.tree ≡ []) tables
still_empty [] old new kept empty = tt
still_empty (t ∷ tables) old new kept empty = (kept.0 ∙ empty.0, still_empty tables old new kept.1 empty.1)

one_more : (tables : List Table) (table : Table) (db : Trees) → AllByRecursion (λ t. db t.tree ≡ []) tables → db table.tree ≡ [] → AllByRecursion (λ t. db t.tree ≡ []) (tables ++ table ∷ [])
one_more [] table db empty last = (last, tt)
one_more (t ∷ tables) table db empty last = (empty.0, one_more tables table db empty.1 last)

-- there is one table more, which is empty, and the others are as they were
record IsAdded (before : Schema) (table : Table) (old new : Database) : Type 0 where
  schema : new.schema ≡ created before (record table { tree = 0 })
  sound : IsSound (created before (record table { tree = 0 })) new.trees
  empty : new.trees (next_tree before) ≡ []
  others : KeepsRows before.tables old.trees new.trees

added : (before : Schema) (text : List ℕ) (table : Table) → MakesTable before text table → (old new : State) → Ran text [] old new → old.now.schema ≡ before → IsAdded before table old.now new.now
added before text table it old new ran has =
    let bare = record table { tree = 0 } in
    let w = subst (λ t. Writes old new None CreateTable t [] ran.0) it.statement (runs_as text [] old new before has CreateTable it.command it.plain ran.0 ran.1.0) in
    let done = went w.changed in
    let first = went done.1 in
    let table = first.1 in
    let both : Ok table.table ≡ Ok bare = sym table.defined ∙ it.defined in
    let same : table.table ≡ bare = same_value both in
    let schema : first.0.schema ≡ created before bare = table.is ∙ ap (λ s. created s table.table) has ∙ ap (created before) same in
    let plain : lacks_sequence first.0.schema ≡ false = ap lacks_sequence schema ∙ it.counted in
    let now : new.now ≡ first.0 = ap (λ (p : Tally × Database). p.1) (same_value done.2) ∙ same_value (rw plain at first.2) in
    let empty : new.now.trees (next_tree before) ≡ [] = ap (λ (d : Database). d.trees (next_tree before)) now ∙ subst (λ s. first.0.trees (next_tree s) ≡ []) has table.empty in
    let kept : KeepsRows before.tables old.now.trees new.now.trees =
    subst (λ (d : Database). KeepsRows before.tables old.now.trees d.trees) (sym now) (subst (λ (s : Schema). KeepsRows s.tables old.now.trees first.0.trees) has table.others) in
    let is : new.now.schema ≡ created before bare = ap (λ (d : Database). d.schema) now ∙ schema in
    record { schema = is; sound = subst (λ s. IsSound s new.now.trees) is w.sound; empty = empty; others = kept }

made : (before : Schema) (text : List ℕ) (table : Table) → MakesTable before text table → (old new : State) → Ran text [] old new → AreEmpty before old.now
    → AreEmpty (created before (record table { tree = 0 })) new.now
made before text table it old new ran was =
    let a = added before text table it old new ran was.schema_is in
    record {
      schema_is = a.schema;
      empty = one_more before.tables _ new.now.trees (still_empty before.tables old.now.trees new.now.trees a.others was.empty) a.empty;
    }

makes : (before : Schema) (text : List ℕ) (table : Table) → MakesTable before text table → (old new : State) → Ran text [] old new
    → Turns (AreEmpty before) (AreEmpty (created before (record table { tree = 0 }))) old new
makes before text table it old new ran = record { shown = ran.1.1; made = made before text table it old new ran }

pub create_meta : (old new : State) → Ran create_meta_text [] old new → Turns (AreEmpty no_schema) (AreEmpty meta_schema) old new
create_meta = makes no_schema create_meta_text meta_table makes_meta

pub create_person : (old new : State) → Ran create_person_text [] old new → Turns (AreEmpty meta_schema) (AreEmpty person_schema) old new
create_person = makes meta_schema create_person_text person_table makes_person

pub create_board : (old new : State) → Ran create_board_text [] old new → Turns (AreEmpty person_schema) (AreEmpty board_schema) old new
create_board = makes person_schema create_board_text board_table makes_board

pub create_role : (old new : State) → Ran create_role_text [] old new → Turns (AreEmpty board_schema) (AreEmpty role_schema) old new
create_role = makes board_schema create_role_text role_table makes_role

pub create_task : (old new : State) → Ran create_task_text [] old new → Turns (AreEmpty role_schema) (AreEmpty task_schema) old new
create_task = makes role_schema create_task_text task_table makes_task

pub create_link : (old new : State) → Ran create_link_text [] old new → Turns (AreEmpty task_schema) (AreEmpty link_schema) old new
create_link = makes task_schema create_link_text link_table makes_link

pub create_instance : (old new : State) → Ran create_instance_text [] old new → Turns (AreEmpty link_schema) (AreEmpty instance_schema) old new
create_instance = makes link_schema create_instance_text instance_table makes_instance

pub create_gone : (old new : State) → Ran create_gone_text [] old new → Turns (AreEmpty instance_schema) (AreEmpty gone_schema) old new
create_gone = makes instance_schema create_gone_text gone_table makes_gone

pub create_kept : (old new : State) → Ran create_kept_text [] old new → Turns (AreEmpty gone_schema) (AreEmpty old_schema) old new
create_kept = makes gone_schema create_kept_text kept_table makes_kept

pub create_horizon : (old new : State) → Ran create_horizon_text [] old new → Turns (AreEmpty old_schema) (AreEmpty second_schema) old new
create_horizon = makes old_schema create_horizon_text horizon_table makes_horizon

pub create_history : (old new : State) → Ran create_history_text [] old new → Turns (AreEmpty second_schema) (AreEmpty store_schema) old new
create_history = makes second_schema create_history_text history_table makes_history

-- ---- beside tables that have rows

no_rows : HasRows [] []
no_rows = record { shaped = (tt, tt); same = IsPermutation-refl [] }

pub add_horizon : (old new : State) → Ran create_horizon_text [] old new → (content : Content) → Turns (IsOldContent content) (IsQuarterway content) old new
add_horizon old new ran content = record {
  shown = ran.1.1;
  made = λ is.
      let a = added old_schema create_horizon_text horizon_table makes_horizon old new ran is.schema in
      let was = is.rows.tables in
      let o = a.others in
      let tables : AreOldTables content new.now.trees = record {
        meta = rw o.0 was.meta;
        people = rw o.1.0 was.people;
        boards = rw o.1.1.0 was.boards;
        roles = rw o.1.1.1.0 was.roles;
        tasks = rw o.1.1.1.1.0 was.tasks;
        links = rw o.1.1.1.1.1.0 was.links;
        instances = rw o.1.1.1.1.1.1.0 was.instances;
        gone = rw o.1.1.1.1.1.1.1.0 was.gone;
        kept = rw o.1.1.1.1.1.1.1.1.0 was.kept;
        task_identifiers = was.task_identifiers;
        kept_identifiers = was.kept_identifiers;
        fits = was.fits;
      } in
      record { schema = a.schema; tables = tables; no_horizon = a.empty };
}

-- to what the first version held
pub add_both : (old new : State) → Ran create_history_text [] old new → (content : Content) → Turns (IsQuarterway content) (IsHalfway content) old new
add_both old new ran content = record {
  shown = ran.1.1;
  made = λ is.
      let a = added second_schema create_history_text history_table makes_history old new ran is.schema in
      let was = is.tables in
      let o = a.others in
      let tables : AreOldTables content new.now.trees = record {
        meta = rw o.0 was.meta;
        people = rw o.1.0 was.people;
        boards = rw o.1.1.0 was.boards;
        roles = rw o.1.1.1.0 was.roles;
        tasks = rw o.1.1.1.1.0 was.tasks;
        links = rw o.1.1.1.1.1.0 was.links;
        instances = rw o.1.1.1.1.1.1.0 was.instances;
        gone = rw o.1.1.1.1.1.1.1.0 was.gone;
        kept = rw o.1.1.1.1.1.1.1.1.0 was.kept;
        task_identifiers = was.task_identifiers;
        kept_identifiers = was.kept_identifiers;
        fits = was.fits;
      } in
      record { schema = a.schema; sound = a.sound; tables = tables; no_horizon = o.1.1.1.1.1.1.1.1.1.0 ∙ is.no_horizon; no_history = a.empty };
}

-- to what the second version held
pub add_history : (old new : State) → Ran create_history_text [] old new → (content : Content) → Turns (IsSecondContent content) (IsContent (without_history content)) old new
add_history old new ran content = record {
  shown = ran.1.1;
  made = λ is.
      let a = added second_schema create_history_text history_table makes_history old new ran is.schema in
      let was = is.rows.tables in
      let o = a.others in
      let tables : AreTables (without_history content) new.now.trees = record {
        meta = rw o.0 was.meta;
        people = rw o.1.0 was.people;
        boards = rw o.1.1.0 was.boards;
        roles = rw o.1.1.1.0 was.roles;
        tasks = rw o.1.1.1.1.0 was.tasks;
        links = rw o.1.1.1.1.1.0 was.links;
        instances = rw o.1.1.1.1.1.1.0 was.instances;
        gone = rw o.1.1.1.1.1.1.1.0 was.gone;
        kept = rw o.1.1.1.1.1.1.1.1.0 was.kept;
        horizon = rw o.1.1.1.1.1.1.1.1.1.0 was.horizon;
        history = rw a.empty no_rows;
        task_identifiers = was.task_identifiers;
        kept_identifiers = was.kept_identifiers;
        history_identifiers = tt;
        fits = was.fits;
      } in
      record { schema = a.schema; rows = record { sound = a.sound; tables = tables } };
}

-- ---- the row of the first table

abbrev pub insert_meta_text : List ℕ
insert_meta_text = codes "INSERT INTO meta (one, kind, version) VALUES (1, 'taskboard', 2)"

abbrev pub insert_old_meta_text : List ℕ
insert_old_meta_text = codes "INSERT INTO meta (one, kind, version) VALUES (1, 'taskboard', 1)"

abbrev terms : ℕ → List Term
terms version = lit (Int (pos 1)) ∷ lit Null ∷ lit (Text (codes "taskboard")) ∷ lit (Int (pos version)) ∷ []

inserts : Means insert_meta_text (Insert 0 (Values (terms 2) 4))
unfolding understood everything
inserts = record { is = refl; bare = (refl, refl) }

inserts_old : MeansIn old_schema insert_old_meta_text (Insert 0 (Values (terms 1) 4))
unfolding understood everything
inserts_old = record { is = refl; bare = (refl, refl) }

abbrev cells : ℕ → Row
cells version = Null ∷ Text (codes "taskboard") ∷ Int (pos version) ∷ []

abbrev source : ℕ → Row
source version = Int (pos 1) ∷ cells version

no_keyed : HasKeyed [] []
no_keyed = record { shaped = (tt, tt); same = IsPermutation-refl [] }

none_fits : IsFitting nothing
none_fits = record { people = tt; boards = tt; roles = tt; tasks = tt; links = tt; instances = tt; gone = tt; kept = tt; horizon = tt; history = tt }

pub insert_meta : (old new : State) → Ran insert_meta_text [] old new → Turns (AreEmpty store_schema) (IsContent nothing) old new
insert_meta old new ran = record {
  shown = ran.1.1;
  made = λ was.
      let effect = row_inserted 0 meta_plain refl refl insert_meta_text old new was.schema_is [] ran.0 (terms 2) 4 (source 2) inserts refl ran.1 in
      let e = effect.1 in
      let o = e.others in
      let tables : AreTables nothing new.now.trees = record {
        meta = keyed_put store_schema old.now.trees new.now.trees meta_table (source 2) (pos 1) (cells 2) [] (rw (cast_integer (pos 1), cast_integer (pos 2), cast_null) refl) effect.0 (rw was.empty.0 no_keyed);
        people = rw (o.1.0 (omega arith) ∙ was.empty.1.0) no_keyed;
        boards = rw (o.1.1.0 (omega arith) ∙ was.empty.1.1.0) no_keyed;
        roles = rw (o.1.1.1.0 (omega arith) ∙ was.empty.1.1.1.0) no_rows;
        tasks = rw (o.1.1.1.1.0 (omega arith) ∙ was.empty.1.1.1.1.0) no_rows;
        links = rw (o.1.1.1.1.1.0 (omega arith) ∙ was.empty.1.1.1.1.1.0) no_rows;
        instances = rw (o.1.1.1.1.1.1.0 (omega arith) ∙ was.empty.1.1.1.1.1.1.0) no_rows;
        gone = rw (o.1.1.1.1.1.1.1.0 (omega arith) ∙ was.empty.1.1.1.1.1.1.1.0) no_rows;
        kept = rw (o.1.1.1.1.1.1.1.1.0 (omega arith) ∙ was.empty.1.1.1.1.1.1.1.1.0) no_rows;
        horizon = rw (o.1.1.1.1.1.1.1.1.1.0 (omega arith) ∙ was.empty.1.1.1.1.1.1.1.1.1.0) no_keyed;
        history = rw (o.1.1.1.1.1.1.1.1.1.1.0 (omega arith) ∙ was.empty.1.1.1.1.1.1.1.1.1.1.0) no_rows;
        task_identifiers = tt;
        kept_identifiers = tt;
        history_identifiers = tt;
        fits = none_fits;
      } in
      record { schema = e.schema; rows = record { sound = e.sound; tables = tables } };
}

pub insert_old_meta : (old new : State) → Ran insert_old_meta_text [] old new → Turns (AreEmpty old_schema) (IsOldContent nothing) old new
insert_old_meta old new ran = record {
  shown = ran.1.1;
  made = λ was.
      let effect = row_inserted_in old_schema old_quiet 0 meta_plain refl insert_old_meta_text old new was.schema_is [] ran.0 (terms 1) 4 (source 1) inserts_old refl ran.1 in
      let e = effect.1 in
      let o = e.others in
      let tables : AreOldTables nothing new.now.trees = record {
        meta = keyed_put old_schema old.now.trees new.now.trees meta_table (source 1) (pos 1) (cells 1) [] (rw (cast_integer (pos 1), cast_null) refl) effect.0 (rw was.empty.0 no_keyed);
        people = rw (o.1.0 (omega arith) ∙ was.empty.1.0) no_keyed;
        boards = rw (o.1.1.0 (omega arith) ∙ was.empty.1.1.0) no_keyed;
        roles = rw (o.1.1.1.0 (omega arith) ∙ was.empty.1.1.1.0) no_rows;
        tasks = rw (o.1.1.1.1.0 (omega arith) ∙ was.empty.1.1.1.1.0) no_rows;
        links = rw (o.1.1.1.1.1.0 (omega arith) ∙ was.empty.1.1.1.1.1.0) no_rows;
        instances = rw (o.1.1.1.1.1.1.0 (omega arith) ∙ was.empty.1.1.1.1.1.1.0) no_rows;
        gone = rw (o.1.1.1.1.1.1.1.0 (omega arith) ∙ was.empty.1.1.1.1.1.1.1.0) no_rows;
        kept = rw (o.1.1.1.1.1.1.1.1.0 (omega arith) ∙ was.empty.1.1.1.1.1.1.1.1.0) no_rows;
        task_identifiers = tt;
        kept_identifiers = tt;
        fits = none_fits;
      } in
      record { schema = e.schema; rows = record { sound = e.sound; tables = tables } };
}
