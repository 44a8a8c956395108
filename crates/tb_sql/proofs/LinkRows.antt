-- What the statements on links do.
use Rattle.std.proofs.Common.{◌≡◌, ◌&&◌, ℕ, pos, List, [], ◌∷◌, map, drop, codes, inl, inr, refl, ap₂, arith, All, ◌⊎◌, not}
use Rattle.std.specs.Prelude.{filter, ◌==◌}
use Rattle.std.specs.declared.cmp.Ordering.TheVariants.{Less}
use Rattle.std.proofs.lemmas.Int.{ints}
use Rattle.std.proofs.lemmas.Bool.Decides.{nat_tests}
use Rattle.sqlite_value.specs.declared.keys.Collation.TheVariants.{Binary}
use Rattle.sqlite_value.specs.declared.keys.Key.{Key}
use Rattle.sqlite_value.specs.declared.value.Value.TheVariants.{Null, Int}
use Rattle.sqlite_value.specs.Keys.{ascending}
use Rattle.sqlite_value.specs.Order.{Row, column}
use Rattle.sqlite_value.proofs.OrderLemmas.{value_cmp-Int}
use Rattle.sqlite_sql.specs.Query.{Output, output_cmp}
use Rattle.sqlite_sql.specs.Term.{Term, lit, col}
use Rattle.sqlite_schema.specs.declared.command.Command.TheVariants.{Insert, Delete}
use Rattle.sqlite_schema.specs.declared.command.Source.TheVariants.{Values}
use Rattle.sqlite_tied.specs.Compute.{everything}
use Rattle.sqlite.specs.Listing.{understood}
use Rattle.sqlite.specs.State.{State, Shown, FailsToQuery, IsTooLate}
use Rattle.tb_sql_tables.specs.declared.rows.LinkRow.{LinkRow}
use Rattle.tb_sql_tables.specs.Tables.{link_plain, link_table, link_tree, store_schema}
use Rattle.tb_sql_tables.specs.Rows.{link_row}
use Rattle.tb_sql_tables.specs.Read.{link_of, IsLinkRow}
use Rattle.tb_sql_tables.specs.Statements.{Changes, Finds, Ran}
use Rattle.tb_sql_tables.specs.Found.{AreFound}
use Rattle.tb_sql_tables.proofs.Contents.{links_changed}
use Rattle.tb_sql_tables.proofs.Effects.{each, cells_deleted, cells_shown, found, each_of, each_left}
use Rattle.tb_sql_tables.proofs.Inserts.{row_put, cast_integer, cast_null}
use Rattle.tb_sql_tables.proofs.Inside.{shown_open}
use Rattle.tb_sql_tables.proofs.KeyTests.{by_one, by_two, has_one, has_two, one_tested, two_tested, equal_numbers}
use Rattle.tb_sql_tables.proofs.Queries.{query_of, program_of, output_at}
use Rattle.tb_sql_tables.proofs.Statements.{Means, Asks, row_inserted}
use Rattle.tb_sql.specs.Changes.{with_link, without_links, is_link_from, IsLinkBefore}
use Rattle.tb_sql_tables.specs.Failing.{IsExcused}
use Rattle.tb_sql_tables.specs.Content.{Content, IsContent}
use Rattle.tb_sql_tables.proofs.Failing.{Suits, fails_so}
use Rattle.tb_sql_tables.proofs.Fitted.{all_read, link_read as link_is_read}
use Rattle.sqlite.specs.declared.error.Error.{Error}
use Rattle.tb_sql_tables.specs.Fitting.{FitsLink}

-- ---- a row goes in

abbrev pub insert_text : List ℕ
insert_text = codes "INSERT INTO link (board, place, target) VALUES (?1, ?2, ?3)"

abbrev terms : List Term
terms = lit Null ∷ col 0 0 ∷ col 0 1 ∷ col 0 2 ∷ []

inserts : Means insert_text (Insert 5 (Values terms 4))
unfolding understood everything
inserts = record { is = refl; bare = (refl, refl) }

pub insert_link : (old new : State) (row : LinkRow) → FitsLink row → Ran insert_text (link_row row) old new → Changes (with_link row) old new
insert_link old new row fits ran = record {
  shown = ran.1.1;
  content = λ content is.
      let cells = link_row row in
      let effect = row_inserted 5 link_plain refl refl insert_text old new is.schema cells ran.0 terms 4 (Null ∷ cells) inserts refl ran.1 in
      links_changed content (row ∷ content.links) old.now new.now effect.1 is
      (row_put store_schema old.now.trees new.now.trees link_table (Null ∷ cells) cells _ (rw (cast_null, cast_integer (pos row.board), cast_integer (pos row.place), cast_integer (pos row.target)) refl) effect.0 is.rows.tables.links) (fits, is.rows.tables.fits.links);
}

-- ---- rows go

abbrev pub delete_text : List ℕ
delete_text = codes "DELETE FROM link WHERE board = ?1 AND place = ?2"

deletes : Means delete_text (Delete 5 (program_of (query_of link_tree by_two (col 1 0 ∷ []) [])))
unfolding understood everything
deletes = record { is = refl; bare = (refl, refl) }

pub delete_links : (old new : State) (board place : ℕ) → Ran delete_text (Int (pos board) ∷ Int (pos place) ∷ []) old new → Changes (without_links board place) old new
delete_links old new board place ran = record {
  shown = ran.1.1;
  content = λ content is.
      let same = each (λ (row : LinkRow). ap₂ ◌&&◌ (equal_numbers row.board board) (equal_numbers row.place place)) content.links in
      let effect = cells_deleted link_row (is_link_from board place) content.links 5 link_plain refl refl delete_text by_two old new is.schema (Int (pos board) ∷ Int (pos place) ∷ []) ran
      (has_two (Int (pos board)) (Int (pos place))) (two_tested (Int (pos board)) (Int (pos place)) []) same is.rows.tables.links deletes in
      links_changed content _ old.now new.now effect.1 is effect.0 (each_left FitsLink (λ x. not (is_link_from board place x)) content.links is.rows.tables.fits.links);
}

-- ---- queries

abbrev shown_terms : List Term
shown_terms = col 1 1 ∷ col 1 2 ∷ col 1 3 ∷ []

abbrev names : List (List ℕ)
names = codes "board" ∷ codes "place" ∷ codes "target" ∷ []

abbrev columns : Row → Row
columns cells = column cells 0 ∷ column cells 1 ∷ column cells 2 ∷ []

abbrev pub select_text : List ℕ
select_text = codes "SELECT board, place, target FROM link WHERE board = ?1 ORDER BY place, target"

abbrev in_order : List (Term × Key)
in_order = (col 1 2, ascending Binary) ∷ (col 1 3, ascending Binary) ∷ []

asks : Asks select_text link_tree by_one shown_terms in_order
unfolding understood everything
asks = record { names = names; means = record { is = refl; bare = (refl, refl) }; unlisted = refl }

abbrev out : Row → Output
out cells = (column cells 1 ∷ column cells 2 ∷ [], columns cells)

shows : (params row : Row) → output_at link_tree refl by_one shown_terms in_order params row ≡ out (drop 1 row)
shows params [] = refl
shows params (id ∷ cells) = refl

lower : (a b : LinkRow) → IsLinkBefore a b → output_cmp (query_of link_tree by_one shown_terms in_order) (out (link_row a)) (out (link_row b)) ≡ Less
lower a b (inl before) = rw value_cmp-Int (grind (arith, ints, nat_tests))
lower a b (inr (same, before)) = rw (same, value_cmp-Int (pos b.place) (pos b.place), value_cmp-Int (pos a.target) (pos b.target)) (grind (arith, ints, nat_tests))

pub select_links : (old new : State) (board : ℕ) (rows : List Row) → Shown select_text (Int (pos board) ∷ []) old new rows
    → Finds (λ content. AreFound IsLinkBefore (filter (λ row. row.board == board) content.links) (map link_of rows)) old
select_links old new board rows shown = record {
  was_open = shown_open select_text _ old new rows shown;
  found = λ content is.
      let params = Int (pos board) ∷ [] in
      let same = each (λ (row : LinkRow). equal_numbers row.board board) content.links in
      let answer = cells_shown link_row (λ row. row.board == board) content.links link_tree refl select_text by_one shown_terms in_order asks old new params rows is.schema shown
      (has_one (Int (pos board))) out (one_tested (Int (pos board)) []) (shows params) same is.rows.tables.links in
      found link_of (query_of link_tree by_one shown_terms in_order) (λ row. out (link_row row)) _ rows (each (λ row. refl) _) answer IsLinkBefore lower;
}

pub select_links_read : (old new : State) (board : ℕ) (rows : List Row) → Shown select_text (Int (pos board) ∷ []) old new rows → (content : Content) → IsContent content old.now → All IsLinkRow rows
select_links_read old new board rows shown content is =
    let params = Int (pos board) ∷ [] in
    let same = each (λ (row : LinkRow). equal_numbers row.board board) content.links in
    let answer = cells_shown link_row (λ row. row.board == board) content.links link_tree refl select_text by_one shown_terms in_order asks old new params rows is.schema shown
    (has_one (Int (pos board))) out (one_tested (Int (pos board)) []) (shows params) same is.rows.tables.links in
    all_read IsLinkRow _ _ _ rows answer (each_of link_is_read _ (each_left _ (λ row. row.board == board) content.links is.rows.tables.fits.links))

select_links_suits : (board : ℕ) → Suits select_text link_tree by_one shown_terms in_order (Int (pos board) ∷ [])
unfolding understood everything
select_links_suits board = record { whole = refl; given = refl; typed = refl }

pub select_links_excused : (old new : State) (board : ℕ) (e : Error) → FailsToQuery select_text (Int (pos board) ∷ []) old new e ⊎ IsTooLate select_text (Int (pos board) ∷ []) old new e → IsExcused old new e
select_links_excused old new board e failed other ready content is = fails_so select_text link_tree by_one shown_terms in_order asks _ (select_links_suits board) old new e is.schema ready other failed
