-- What the statements on instances do.
use Rattle.std.proofs.Common.{◌≡◌, ℕ, pos, List, [], ◌∷◌, map, drop, codes, inl, inr, refl, arith, All, ◌⊎◌}
use Rattle.std.specs.Prelude.{filter, ◌==◌}
use Rattle.std.specs.declared.cmp.Ordering.TheVariants.{Less}
use Rattle.std.proofs.lemmas.Int.{ints}
use Rattle.std.proofs.lemmas.Bool.Decides.{nat_tests}
use Rattle.sqlite_value.specs.declared.keys.Collation.TheVariants.{Binary}
use Rattle.sqlite_value.specs.declared.keys.Key.{Key}
use Rattle.sqlite_value.specs.declared.value.Value.TheVariants.{Null, Int}
use Rattle.sqlite_value.specs.Keys.{ascending}
use Rattle.sqlite_value.specs.Order.{Row, column}
use Rattle.sqlite_value.proofs.OrderLemmas.{value_cmp-Int}
use Rattle.sqlite_sql.specs.Query.{Output, output_cmp}
use Rattle.sqlite_sql.specs.Term.{Term, lit, col}
use Rattle.sqlite_schema.specs.declared.command.Command.TheVariants.{Insert}
use Rattle.sqlite_schema.specs.declared.command.Source.TheVariants.{Values}
use Rattle.sqlite_tied.specs.Compute.{everything}
use Rattle.sqlite.specs.Listing.{understood}
use Rattle.sqlite.specs.State.{State, Shown, FailsToQuery, IsTooLate}
use Rattle.tb_sql_tables.specs.declared.rows.InstanceRow.{InstanceRow}
use Rattle.tb_sql_tables.specs.Tables.{instance_plain, instance_table, instance_tree, store_schema}
use Rattle.tb_sql_tables.specs.Rows.{instance_row}
use Rattle.tb_sql_tables.specs.Read.{instance_of, IsInstanceRow}
use Rattle.tb_sql_tables.specs.Statements.{Changes, Finds, Ran}
use Rattle.tb_sql_tables.specs.Found.{AreFound}
use Rattle.tb_sql_tables.proofs.Contents.{instances_changed}
use Rattle.tb_sql_tables.proofs.Effects.{each, cells_shown, found, each_of, each_left}
use Rattle.tb_sql_tables.proofs.Inserts.{row_put, cast_integer, cast_null}
use Rattle.tb_sql_tables.proofs.Inside.{shown_open}
use Rattle.tb_sql_tables.proofs.KeyTests.{by_one, has_one, one_tested, equal_numbers}
use Rattle.tb_sql_tables.proofs.Queries.{query_of, output_at}
use Rattle.tb_sql_tables.proofs.Statements.{Means, Asks, row_inserted}
use Rattle.tb_sql.specs.Changes.{with_instance, IsInstanceBefore}
use Rattle.tb_sql_tables.specs.Failing.{IsExcused}
use Rattle.tb_sql_tables.specs.Content.{Content, IsContent}
use Rattle.tb_sql_tables.proofs.Failing.{Suits, fails_so}
use Rattle.tb_sql_tables.proofs.Fitted.{all_read, instance_read as instance_is_read}
use Rattle.sqlite.specs.declared.error.Error.{Error}
use Rattle.tb_sql_tables.specs.Fitting.{FitsInstance}

-- ---- a row goes in

abbrev pub insert_text : List ℕ
insert_text = codes "INSERT INTO instance (board, template, imask, place) VALUES (?1, ?2, ?3, ?4)"

abbrev terms : List Term
terms = lit Null ∷ col 0 0 ∷ col 0 1 ∷ col 0 2 ∷ col 0 3 ∷ []

inserts : Means insert_text (Insert 6 (Values terms 5))
unfolding understood everything
inserts = record { is = refl; bare = (refl, refl) }

pub insert_instance : (old new : State) (row : InstanceRow) → FitsInstance row → Ran insert_text (instance_row row) old new → Changes (with_instance row) old new
insert_instance old new row fits ran = record {
  shown = ran.1.1;
  content = λ content is.
      let cells = instance_row row in
      let effect = row_inserted 6 instance_plain refl refl insert_text old new is.schema cells ran.0 terms 5 (Null ∷ cells) inserts refl ran.1 in
      instances_changed content (row ∷ content.instances) old.now new.now effect.1 is
      (row_put store_schema old.now.trees new.now.trees instance_table (Null ∷ cells) cells _ (rw (cast_null, cast_integer (pos row.board), cast_integer (pos row.template), cast_integer (pos row.imask), cast_integer (pos row.place)) refl) effect.0 is.rows.tables.instances) (fits, is.rows.tables.fits.instances);
}

-- ---- queries

abbrev shown_terms : List Term
shown_terms = col 1 1 ∷ col 1 2 ∷ col 1 3 ∷ col 1 4 ∷ []

abbrev names : List (List ℕ)
names = codes "board" ∷ codes "template" ∷ codes "imask" ∷ codes "place" ∷ []

abbrev columns : Row → Row
columns cells = column cells 0 ∷ column cells 1 ∷ column cells 2 ∷ column cells 3 ∷ []

abbrev pub select_text : List ℕ
select_text = codes "SELECT board, template, imask, place FROM instance WHERE board = ?1 ORDER BY template, imask"

abbrev in_order : List (Term × Key)
in_order = (col 1 2, ascending Binary) ∷ (col 1 3, ascending Binary) ∷ []

asks : Asks select_text instance_tree by_one shown_terms in_order
unfolding understood everything
asks = record { names = names; means = record { is = refl; bare = (refl, refl) }; unlisted = refl }

abbrev out : Row → Output
out cells = (column cells 1 ∷ column cells 2 ∷ [], columns cells)

shows : (params row : Row) → output_at instance_tree refl by_one shown_terms in_order params row ≡ out (drop 1 row)
shows params [] = refl
shows params (id ∷ cells) = refl

lower : (a b : InstanceRow) → IsInstanceBefore a b → output_cmp (query_of instance_tree by_one shown_terms in_order) (out (instance_row a)) (out (instance_row b)) ≡ Less
lower a b (inl before) = rw value_cmp-Int (grind (arith, ints, nat_tests))
lower a b (inr (same, before)) = rw (same, value_cmp-Int (pos b.template) (pos b.template), value_cmp-Int (pos a.imask) (pos b.imask)) (grind (arith, ints, nat_tests))

pub select_instances : (old new : State) (board : ℕ) (rows : List Row) → Shown select_text (Int (pos board) ∷ []) old new rows
    → Finds (λ content. AreFound IsInstanceBefore (filter (λ row. row.board == board) content.instances) (map instance_of rows)) old
select_instances old new board rows shown = record {
  was_open = shown_open select_text _ old new rows shown;
  found = λ content is.
      let params = Int (pos board) ∷ [] in
      let same = each (λ (row : InstanceRow). equal_numbers row.board board) content.instances in
      let answer = cells_shown instance_row (λ row. row.board == board) content.instances instance_tree refl select_text by_one shown_terms in_order asks old new params rows is.schema shown
      (has_one (Int (pos board))) out (one_tested (Int (pos board)) []) (shows params) same is.rows.tables.instances in
      found instance_of (query_of instance_tree by_one shown_terms in_order) (λ row. out (instance_row row)) _ rows (each (λ row. refl) _) answer IsInstanceBefore lower;
}

pub select_instances_read : (old new : State) (board : ℕ) (rows : List Row) → Shown select_text (Int (pos board) ∷ []) old new rows → (content : Content) → IsContent content old.now → All IsInstanceRow rows
select_instances_read old new board rows shown content is =
    let params = Int (pos board) ∷ [] in
    let same = each (λ (row : InstanceRow). equal_numbers row.board board) content.instances in
    let answer = cells_shown instance_row (λ row. row.board == board) content.instances instance_tree refl select_text by_one shown_terms in_order asks old new params rows is.schema shown
    (has_one (Int (pos board))) out (one_tested (Int (pos board)) []) (shows params) same is.rows.tables.instances in
    all_read IsInstanceRow _ _ _ rows answer (each_of instance_is_read _ (each_left _ (λ row. row.board == board) content.instances is.rows.tables.fits.instances))

select_instances_suits : (board : ℕ) → Suits select_text instance_tree by_one shown_terms in_order (Int (pos board) ∷ [])
unfolding understood everything
select_instances_suits board = record { whole = refl; given = refl; typed = refl }

pub select_instances_excused : (old new : State) (board : ℕ) (e : Error) → FailsToQuery select_text (Int (pos board) ∷ []) old new e ⊎ IsTooLate select_text (Int (pos board) ∷ []) old new e → IsExcused old new e
select_instances_excused old new board e failed other ready content is = fails_so select_text instance_tree by_one shown_terms in_order asks _ (select_instances_suits board) old new e is.schema ready other failed
