-- What a statement of each kind does, of its meaning under the schema of a store, or of a store of the first version.
use Rattle.std.proofs.Common.{◌≡◌, ◌≢◌, ◌∙◌, ℕ, ℤ, ◌/◌, List, [], ◌∷◌, map, length, slice_get, Some, None, Ok, false, refl, subst, IsPermutation}
use Rattle.std.specs.Prelude.{filter}
use Rattle.std.specs.List.{AllByRecursion}
use Rattle.std.proofs.lemmas.List.Sorted.{IsPermutation-map}
use Rattle.sqlite_value.specs.declared.keys.Key.{Key}
use Rattle.sqlite_value.specs.Order.{Row, column}
use Rattle.sqlite_trees.specs.Tree.{Trees, rowid}
use Rattle.sqlite_trees.proofs.ListLemmas.{map-map}
use Rattle.sqlite_sql.specs.Program.{given_at}
use Rattle.sqlite_sql.specs.Term.{Term, col, eval_all}
use Rattle.sqlite_schema.specs.declared.schema.Keys.TheVariants.{Enforced}
use Rattle.sqlite_schema.specs.declared.schema.Schema.{Schema}
use Rattle.sqlite_schema.specs.declared.command.Command.{Command}
use Rattle.sqlite_schema.specs.declared.command.Command.TheVariants.{Insert, Update, Delete, Select}
use Rattle.sqlite_schema.specs.declared.command.Source.TheVariants.{Values}
use Rattle.sqlite_rules.specs.Action.{works}
use Rattle.sqlite_rules.specs.Calls.{ids_of}
use Rattle.sqlite_rules.specs.Edit.{Edit, id_in, edit_of, Applies}
use Rattle.sqlite_rules.specs.declared.error.Rowids.{Rowids}
use Rattle.sqlite_rules.specs.declared.error.Rowids.TheVariants.{Chosen, Given}
use Rattle.sqlite_catalog.specs.Listing.{IsSound}
use Rattle.sqlite.specs.Effect.{Database, Answers, value_rows}
use Rattle.sqlite.specs.Rows.{stamped}
use Rattle.sqlite.specs.Listing.{understood, reads_listing}
use Rattle.sqlite.specs.State.{State, ExecutesInside, Writes, Shown}
use Rattle.sqlite.specs.Given.{IsPlain}
use Rattle.sqlite.proofs.Callers.{command_of, statement_of, runs_as, reads_as}
use Rattle.tb_sql_tables.specs.Tables.{Plain, table_of, store_schema}
use Rattle.tb_sql_tables.proofs.Inserts.{inserted}
use Rattle.tb_sql_tables.proofs.Deletes.{deleted}
use Rattle.tb_sql_tables.proofs.Updates.{updated}
use Rattle.tb_sql_tables.proofs.Queries.{query_of, program_of, passes, shown_rows}
use Rattle.tb_sql_tables.proofs.Trees.{quiet}

-- the text means this, under the schema
pub record MeansIn (under : Schema) (text : List ℕ) (command : Command) : Type 0 where
  pub is : command_of (understood under text) ≡ command
  pub bare : IsPlain (understood under text)

abbrev pub Means : List ℕ → Command → Type 0
Means = MeansIn store_schema

-- of the tables at most the one of this tree is changed
pub record EditedIn (under : Schema) (tree : ℕ) (old new : Database) : Type 0 where
  pub others : AllByRecursion (λ t. t.tree ≢ tree → new.trees t.tree ≡ old.trees t.tree) under.tables
  pub schema : new.schema ≡ under
  pub sound : IsSound under new.trees

abbrev pub Edited : ℕ → Database → Database → Type 0
Edited = EditedIn store_schema

edited : (under : Schema) (edit : Edit) (old new : State) (command : Command) (text : List ℕ) (params : Row) (count : ℕ) → Writes old new None command text params count
    → Applies under Enforced old.now.trees edit new.now.trees → new.now.schema ≡ under → EditedIn under edit.table.tree old.now new.now
edited under edit old new command text params count w a schema = record { others = a.tables; schema = schema; sound = subst (λ s. IsSound s new.now.trees) schema w.sound }

-- a row of the parameters goes in
pub row_inserted_in : (under : Schema) → ((tree : ℕ) (olds news : List Row) → works under Enforced 0 tree olds news ≡ []) → (at : ℕ) (plain : Plain) → slice_get under.tables at ≡ Some (table_of plain)
    → (text : List ℕ) (old new : State) → old.now.schema ≡ under → (params : Row) (count : ℕ) (terms : List Term) (width : ℕ) (source : Row) → MeansIn under text (Insert at (Values terms width))
    → value_rows (stamped (table_of plain) params) width (length terms / width) terms ≡ source ∷ [] → ExecutesInside 0 text params old new (Ok count)
    → Applies under Enforced old.now.trees (edit_of old.now.trees (table_of plain) [] Chosen 0 (source ∷ [])) new.now.trees × EditedIn under plain.tree old.now new.now
row_inserted_in under settled at plain place text old new has params count terms width source means one h =
    let command = Insert at (Values terms width) in
    let edit = edit_of old.now.trees (table_of plain) [] Chosen 0 (source ∷ []) in
    let w : Writes old new None command (statement_of text (understood under text)) params count = runs_as text params old new under has command means.is means.bare count h.0 in
    let effect = inserted old new under has at plain place (settled plain.tree) (Values terms width) _ params count w in
    let a : Applies under Enforced old.now.trees edit new.now.trees = rw (effect.1.1 ∙ one) at effect.2 in
    (a, edited under edit old new command _ params count w a effect.3)

module _ (at : ℕ) (plain : Plain) (place : slice_get store_schema.tables at ≡ Some (table_of plain)) (low : given_at [] plain.tree ≡ None) (text : List ℕ) (old new : State) (has : old.now.schema ≡ store_schema) (params : Row) (count : ℕ) where
  abbrev edit_by : List ℤ → Rowids → ℕ → List Row → Edit
  edit_by ids how width rows = edit_of old.now.trees (table_of plain) ids how width rows

  pub row_inserted : (terms : List Term) (width : ℕ) (source : Row) → Means text (Insert at (Values terms width)) → value_rows (stamped (table_of plain) params) width (length terms / width) terms ≡ source ∷ []
      → ExecutesInside 0 text params old new (Ok count)
      → Applies store_schema Enforced old.now.trees (edit_by [] Chosen 0 (source ∷ [])) new.now.trees × Edited plain.tree old.now new.now
  row_inserted terms width source means one h = row_inserted_in store_schema quiet at plain place text old new has params count terms width source means one h

  -- the rows that pass the test go out
  pub row_deleted : (test : List Term) → Means text (Delete at (program_of (query_of plain.tree test (col 1 0 ∷ []) []))) → ExecutesInside 0 text params old new (Ok count)
      → (ids : List ℤ) × IsPermutation (ids_of (filter (passes test params) (old.now.trees plain.tree))) ids
      × Applies store_schema Enforced old.now.trees (edit_by ids Given 0 []) new.now.trees × Edited plain.tree old.now new.now
  row_deleted test means h =
      let q = query_of plain.tree test (col 1 0 ∷ []) [] in
      let command = Delete at (program_of q) in
      let w : Writes old new None command (statement_of text (understood store_schema text)) params count = runs_as text params old new store_schema has command means.is means.bare count h.0 in
      let effect = deleted old new store_schema has at plain place (λ olds. quiet plain.tree olds []) (program_of q) _ params count w in
      let matched = filter (passes test params) (old.now.trees plain.tree) in
      let answers = shown_rows plain.tree low test (col 1 0 ∷ []) [] (record old.now { schema = store_schema }) params effect.0 effect.1 in
      let same : IsPermutation (ids_of matched) (ids_of effect.0) =
      subst (λ l. IsPermutation l (ids_of effect.0)) (map-map (λ r. id_in (rowid r)) (λ (r : Row). let shown : Row = column r 0 ∷ [] in shown) matched) (IsPermutation-map (λ r. id_in (rowid r)) _ _ answers) in
      (ids_of effect.0, same, effect.2, edited store_schema (edit_by (ids_of effect.0) Given 0 []) old new command _ params count w effect.2 effect.3)

  -- the rows that pass the test are replaced by what is projected of them, under the rowid that is projected first
  pub row_updated : (test project : List Term) → Means text (Update at (program_of (query_of plain.tree test project []))) → ExecutesInside 0 text params old new (Ok count)
      → (answer : List Row) × IsPermutation (map (λ r. eval_all project (params ∷ r ∷ [])) (filter (passes test params) (old.now.trees plain.tree))) answer
      × Applies store_schema Enforced old.now.trees (edit_by (ids_of answer) Given 1 answer) new.now.trees × Edited plain.tree old.now new.now
  row_updated test project means h =
      let q = query_of plain.tree test project [] in
      let command = Update at (program_of q) in
      let w : Writes old new None command (statement_of text (understood store_schema text)) params count = runs_as text params old new store_schema has command means.is means.bare count h.0 in
      let effect = updated old new store_schema has at plain place (quiet plain.tree) (program_of q) _ params count w in
      let answers = shown_rows plain.tree low test project [] (record old.now { schema = store_schema }) params effect.0 effect.1 in
      (effect.0, answers, effect.2, edited store_schema (edit_by (ids_of effect.0) Given 1 effect.0) old new command _ params count w effect.2 effect.3)

-- ---- a query

-- the text is a query that does not look at the list of the tables
pub record AsksIn (under : Schema) (text : List ℕ) (tree : ℕ) (test project : List Term) (order : List (Term × Key)) : Type 0 where
  pub names : List (List ℕ)
  pub means : MeansIn under text (Select (program_of (query_of tree test project order)) names)
  pub unlisted : reads_listing under text ≡ false

abbrev pub Asks : List ℕ → ℕ → List Term → List Term → List (Term × Key) → Type 0
Asks = AsksIn store_schema

pub row_answers : (under : Schema) (text : List ℕ) (tree : ℕ) (test project : List Term) (order : List (Term × Key)) → AsksIn under text tree test project order → (old new : State) (params : Row) (rows : List Row)
    → old.now.schema ≡ under → Shown text params old new rows → Answers old.now (program_of (query_of tree test project order)) params rows
row_answers under text tree test project order asks old new params rows has shown =
    reads_as text params old new under has (Select (program_of (query_of tree test project order)) asks.names) asks.means.is asks.means.bare asks.unlisted rows shown
