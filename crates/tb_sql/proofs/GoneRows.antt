-- What the statements on instances that are gone do.
use Rattle.std.proofs.Common.{◌≡◌, ◌&&◌, ℕ, pos, List, [], ◌∷◌, map, drop, codes, inl, inr, refl, ap₂, arith, All, ◌⊎◌, not}
use Rattle.std.specs.Prelude.{filter, ◌==◌}
use Rattle.std.specs.declared.cmp.Ordering.TheVariants.{Less}
use Rattle.std.proofs.lemmas.Int.{ints}
use Rattle.std.proofs.lemmas.Bool.Decides.{nat_tests}
use Rattle.sqlite_value.specs.declared.keys.Collation.TheVariants.{Binary}
use Rattle.sqlite_value.specs.declared.keys.Key.{Key}
use Rattle.sqlite_value.specs.declared.value.Value.TheVariants.{Null, Int}
use Rattle.sqlite_value.specs.Keys.{ascending}
use Rattle.sqlite_value.specs.Order.{Row, column}
use Rattle.sqlite_value.proofs.OrderLemmas.{value_cmp-Int}
use Rattle.sqlite_sql.specs.Query.{Output, output_cmp}
use Rattle.sqlite_sql.specs.Term.{Term, lit, col}
use Rattle.sqlite_schema.specs.declared.command.Command.TheVariants.{Insert, Delete}
use Rattle.sqlite_schema.specs.declared.command.Source.TheVariants.{Values}
use Rattle.sqlite_tied.specs.Compute.{everything}
use Rattle.sqlite.specs.Listing.{understood}
use Rattle.sqlite.specs.State.{State, Shown, FailsToQuery, IsTooLate}
use Rattle.tb_sql_tables.specs.declared.rows.GoneRow.{GoneRow}
use Rattle.tb_sql_tables.specs.Tables.{gone_plain, gone_table, gone_tree, store_schema}
use Rattle.tb_sql_tables.specs.Rows.{gone_row}
use Rattle.tb_sql_tables.specs.Read.{gone_of, IsGoneRow}
use Rattle.tb_sql_tables.specs.Statements.{Changes, Finds, Ran}
use Rattle.tb_sql_tables.specs.Found.{AreFound}
use Rattle.tb_sql_tables.proofs.Contents.{gone_changed}
use Rattle.tb_sql_tables.proofs.Effects.{each, cells_deleted, cells_shown, found, each_of, each_left}
use Rattle.tb_sql_tables.proofs.Inserts.{row_put, cast_integer, cast_null}
use Rattle.tb_sql_tables.proofs.Inside.{shown_open}
use Rattle.tb_sql_tables.proofs.KeyTests.{by_one, by_three, has_one, has_three, one_tested, three_tested, equal_numbers}
use Rattle.tb_sql_tables.proofs.Queries.{query_of, program_of, output_at}
use Rattle.tb_sql_tables.proofs.Statements.{Means, Asks, row_inserted}
use Rattle.tb_sql.specs.Changes.{with_gone, without_gone, is_gone, IsGoneBefore}
use Rattle.tb_sql_tables.specs.Failing.{IsExcused}
use Rattle.tb_sql_tables.specs.Content.{Content, IsContent}
use Rattle.tb_sql_tables.proofs.Failing.{Suits, fails_so}
use Rattle.tb_sql_tables.proofs.Fitted.{all_read, gone_read as gone_is_read}
use Rattle.sqlite.specs.declared.error.Error.{Error}
use Rattle.tb_sql_tables.specs.Fitting.{FitsGone}

-- ---- a row goes in

abbrev pub insert_text : List ℕ
insert_text = codes "INSERT INTO gone (board, template, imask, mark) VALUES (?1, ?2, ?3, ?4)"

abbrev terms : List Term
terms = lit Null ∷ col 0 0 ∷ col 0 1 ∷ col 0 2 ∷ col 0 3 ∷ []

inserts : Means insert_text (Insert 7 (Values terms 5))
unfolding understood everything
inserts = record { is = refl; bare = (refl, refl) }

pub insert_gone : (old new : State) (row : GoneRow) → FitsGone row → Ran insert_text (gone_row row) old new → Changes (with_gone row) old new
insert_gone old new row fits ran = record {
  shown = ran.1.1;
  content = λ content is.
      let cells = gone_row row in
      let effect = row_inserted 7 gone_plain refl refl insert_text old new is.schema cells ran.0 terms 5 (Null ∷ cells) inserts refl ran.1 in
      gone_changed content (row ∷ content.gone) old.now new.now effect.1 is
      (row_put store_schema old.now.trees new.now.trees gone_table (Null ∷ cells) cells _ (rw (cast_null, cast_integer (pos row.board), cast_integer (pos row.template), cast_integer (pos row.imask)) refl) effect.0 is.rows.tables.gone) (fits, is.rows.tables.fits.gone);
}

-- ---- rows go

abbrev pub delete_text : List ℕ
delete_text = codes "DELETE FROM gone WHERE board = ?1 AND template = ?2 AND imask = ?3"

deletes : Means delete_text (Delete 7 (program_of (query_of gone_tree by_three (col 1 0 ∷ []) [])))
unfolding understood everything
deletes = record { is = refl; bare = (refl, refl) }

pub delete_gone : (old new : State) (board template imask : ℕ) → Ran delete_text (Int (pos board) ∷ Int (pos template) ∷ Int (pos imask) ∷ []) old new → Changes (without_gone board template imask) old new
delete_gone old new board template imask ran = record {
  shown = ran.1.1;
  content = λ content is.
      let same = each (λ (row : GoneRow). ap₂ ◌&&◌ (equal_numbers row.board board) (ap₂ ◌&&◌ (equal_numbers row.template template) (equal_numbers row.imask imask))) content.gone in
      let effect = cells_deleted gone_row (is_gone board template imask) content.gone 7 gone_plain refl refl delete_text by_three old new is.schema (Int (pos board) ∷ Int (pos template) ∷ Int (pos imask) ∷ []) ran
      (has_three (Int (pos board)) (Int (pos template)) (Int (pos imask))) (three_tested (Int (pos board)) (Int (pos template)) (Int (pos imask)) []) same is.rows.tables.gone deletes in
      gone_changed content _ old.now new.now effect.1 is effect.0 (each_left FitsGone (λ x. not (is_gone board template imask x)) content.gone is.rows.tables.fits.gone);
}

-- ---- queries

abbrev shown_terms : List Term
shown_terms = col 1 1 ∷ col 1 2 ∷ col 1 3 ∷ col 1 4 ∷ []

abbrev names : List (List ℕ)
names = codes "board" ∷ codes "template" ∷ codes "imask" ∷ codes "mark" ∷ []

abbrev columns : Row → Row
columns cells = column cells 0 ∷ column cells 1 ∷ column cells 2 ∷ column cells 3 ∷ []

abbrev pub select_text : List ℕ
select_text = codes "SELECT board, template, imask, mark FROM gone WHERE board = ?1 ORDER BY template, imask"

abbrev in_order : List (Term × Key)
in_order = (col 1 2, ascending Binary) ∷ (col 1 3, ascending Binary) ∷ []

asks : Asks select_text gone_tree by_one shown_terms in_order
unfolding understood everything
asks = record { names = names; means = record { is = refl; bare = (refl, refl) }; unlisted = refl }

abbrev out : Row → Output
out cells = (column cells 1 ∷ column cells 2 ∷ [], columns cells)

shows : (params row : Row) → output_at gone_tree refl by_one shown_terms in_order params row ≡ out (drop 1 row)
shows params [] = refl
shows params (id ∷ cells) = refl

lower : (a b : GoneRow) → IsGoneBefore a b → output_cmp (query_of gone_tree by_one shown_terms in_order) (out (gone_row a)) (out (gone_row b)) ≡ Less
lower a b (inl before) = rw value_cmp-Int (grind (arith, ints, nat_tests))
lower a b (inr (same, before)) = rw (same, value_cmp-Int (pos b.template) (pos b.template), value_cmp-Int (pos a.imask) (pos b.imask)) (grind (arith, ints, nat_tests))

pub select_gone : (old new : State) (board : ℕ) (rows : List Row) → Shown select_text (Int (pos board) ∷ []) old new rows
    → Finds (λ content. AreFound IsGoneBefore (filter (λ row. row.board == board) content.gone) (map gone_of rows)) old
select_gone old new board rows shown = record {
  was_open = shown_open select_text _ old new rows shown;
  found = λ content is.
      let params = Int (pos board) ∷ [] in
      let same = each (λ (row : GoneRow). equal_numbers row.board board) content.gone in
      let answer = cells_shown gone_row (λ row. row.board == board) content.gone gone_tree refl select_text by_one shown_terms in_order asks old new params rows is.schema shown
      (has_one (Int (pos board))) out (one_tested (Int (pos board)) []) (shows params) same is.rows.tables.gone in
      found gone_of (query_of gone_tree by_one shown_terms in_order) (λ row. out (gone_row row)) _ rows (each (λ row. refl) _) answer IsGoneBefore lower;
}

pub select_gone_read : (old new : State) (board : ℕ) (rows : List Row) → Shown select_text (Int (pos board) ∷ []) old new rows → (content : Content) → IsContent content old.now → All IsGoneRow rows
select_gone_read old new board rows shown content is =
    let params = Int (pos board) ∷ [] in
    let same = each (λ (row : GoneRow). equal_numbers row.board board) content.gone in
    let answer = cells_shown gone_row (λ row. row.board == board) content.gone gone_tree refl select_text by_one shown_terms in_order asks old new params rows is.schema shown
    (has_one (Int (pos board))) out (one_tested (Int (pos board)) []) (shows params) same is.rows.tables.gone in
    all_read IsGoneRow _ _ _ rows answer (each_of gone_is_read _ (each_left _ (λ row. row.board == board) content.gone is.rows.tables.fits.gone))

select_gone_suits : (board : ℕ) → Suits select_text gone_tree by_one shown_terms in_order (Int (pos board) ∷ [])
unfolding understood everything
select_gone_suits board = record { whole = refl; given = refl; typed = refl }

pub select_gone_excused : (old new : State) (board : ℕ) (e : Error) → FailsToQuery select_text (Int (pos board) ∷ []) old new e ⊎ IsTooLate select_text (Int (pos board) ∷ []) old new e → IsExcused old new e
select_gone_excused old new board e failed other ready content is = fails_so select_text gone_tree by_one shown_terms in_order asks _ (select_gone_suits board) old new e is.schema ready other failed
