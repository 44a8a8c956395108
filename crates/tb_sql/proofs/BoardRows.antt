-- What the statements on boards do.
use Rattle.std.proofs.Common.{IsTrue, ◌≡◌, ◌∙◌, ◌⊎◌, ℕ, pos, List, [], ◌∷◌, map, codes, length, not, true, option_map, slice_get, refl, subst, arith, All, IsUtf8, ◌<◌, ◌^◌}
use Rattle.std.specs.Prelude.{filter, ◌==◌}
use Rattle.std.specs.List.{list_any}
use Rattle.std.specs.declared.cmp.Ordering.TheVariants.{Less}
use Rattle.std.proofs.lemmas.Int.{ints}
use Rattle.std.proofs.lemmas.Bool.Decides.{nat_tests}
use Rattle.sqlite_value.specs.declared.keys.Collation.TheVariants.{Binary}
use Rattle.sqlite_value.specs.declared.keys.Key.{Key}
use Rattle.sqlite_value.specs.declared.value.Value.TheVariants.{Null, Int, Text}
use Rattle.sqlite_value.specs.Keys.{ascending}
use Rattle.sqlite_value.specs.Order.{Row}
use Rattle.sqlite_value.proofs.OrderLemmas.{value_cmp-Int}
use Rattle.sqlite_sql.specs.Query.{Output, output_cmp}
use Rattle.sqlite_sql.specs.Term.{Term, lit, col}
use Rattle.sqlite_schema.specs.declared.command.Command.TheVariants.{Insert, Update}
use Rattle.sqlite_schema.specs.declared.command.Source.TheVariants.{Values}
use Rattle.sqlite_tied.specs.Compute.{everything}
use Rattle.sqlite.specs.Listing.{understood}
use Rattle.sqlite.specs.declared.error.Error.{Error}
use Rattle.sqlite.specs.State.{FailsToQuery, IsTooLate, State, Shown}
use Rattle.tb_sql_tables.specs.declared.rows.BoardRow.{BoardRow}
use Rattle.tb_sql_tables.specs.Tables.{board_plain, board_table, board_tree, store_schema}
use Rattle.tb_sql_tables.specs.Rows.{board_row}
use Rattle.tb_sql_tables.specs.Read.{board_of, IsBoardRow}
use Rattle.tb_sql_tables.specs.Statements.{Changes, Finds, Ran}
use Rattle.tb_sql_tables.specs.Failing.{IsExcused}
use Rattle.tb_sql_tables.specs.Found.{AreFound, IsOneOf}
use Rattle.tb_sql_tables.proofs.Contents.{boards_changed}
use Rattle.tb_sql_tables.proofs.Effects.{each, all_left, keyed_updated, keyed_shown, found, found_any, found_one, each_of, each_left}
use Rattle.tb_sql_tables.proofs.Failing.{Suits, fails_so}
use Rattle.tb_sql_tables.proofs.Inserts.{cast_integer, cast_null}
use Rattle.tb_sql_tables.proofs.Inside.{shown_open}
use Rattle.tb_sql_tables.proofs.Keyed.{keyed_put}
use Rattle.tb_sql_tables.proofs.Looking.{looks_on}
use Rattle.tb_sql_tables.proofs.KeyTests.{equal, equal_numbers}
use Rattle.tb_sql_tables.proofs.Queries.{query_of, program_of, output_at}
use Rattle.tb_sql_tables.proofs.SqlTests.{and_true}
use Rattle.tb_sql_tables.proofs.Statements.{Means, Asks, row_inserted}
use Rattle.tb_sql.specs.Changes.{with_board, with_low, with_title, is_board, IsBoardBefore}
use Rattle.tb_sql_tables.specs.Content.{Content, IsContent}
use Rattle.tb_sql_tables.proofs.Fitted.{all_read, board_read as board_is_read, still_fit}
use Rattle.tb_sql_tables.specs.Fitting.{FitsBoard}

-- ---- a row goes in

abbrev pub insert_text : List ℕ
insert_text = codes "INSERT INTO board (id, title, low) VALUES (?1, ?2, ?3)"

abbrev terms : List Term
terms = col 0 0 ∷ lit Null ∷ col 0 1 ∷ col 0 2 ∷ []

inserts : Means insert_text (Insert 2 (Values terms 4))
unfolding understood everything
inserts = record { is = refl; bare = (refl, refl) }

abbrev pub row_params : BoardRow → Row
row_params row = Int (pos row.id) ∷ Text row.title ∷ Int (pos row.low) ∷ []

pub insert_board : (old new : State) (row : BoardRow) → FitsBoard row → Ran insert_text (row_params row) old new → Changes (with_board row) old new
insert_board old new row fits ran = record {
  shown = ran.1.1;
  content = λ content is.
      let cells : Row = Null ∷ Text row.title ∷ Int (pos row.low) ∷ [] in
      let effect = row_inserted 2 board_plain refl refl insert_text old new is.schema (row_params row) ran.0 terms 4 (board_row row) inserts refl ran.1 in
      boards_changed content (row ∷ content.boards) old.now new.now effect.1 is
      (keyed_put store_schema old.now.trees new.now.trees board_table (board_row row) (pos row.id) cells _ (rw (cast_null, cast_integer (pos row.id), cast_integer (pos row.low)) refl) effect.0 is.rows.tables.boards) (fits, is.rows.tables.fits.boards);
}

-- ---- the least free number of a board

abbrev pub update_text : List ℕ
update_text = codes "UPDATE board SET low = ?2 WHERE id = ?1"

abbrev by_id : List Term
by_id = equal 0 0 ∷ []

-- the rowid of the row that goes, and then the row that stands in its place
abbrev replaced : List Term
replaced = col 1 0 ∷ col 1 0 ∷ lit Null ∷ col 1 2 ∷ col 0 1 ∷ []

updates : Means update_text (Update 2 (program_of (query_of board_tree by_id replaced [])))
unfolding understood everything
updates = record { is = refl; bare = (refl, refl) }

pub update_low : (old new : State) (id low : ℕ) → low < 2 ^ 32 → Ran update_text (Int (pos id) ∷ Int (pos low) ∷ []) old new → Changes (with_low id low) old new
update_low old new id low fits ran = record {
  shown = ran.1.1;
  content = λ content is.
      let params = Int (pos id) ∷ Int (pos low) ∷ [] in
      let set = λ (board : BoardRow). let changed : BoardRow = record board { low = low } in changed in
      let same = each (λ (board : BoardRow). and_true _ ∙ equal_numbers board.id id) content.boards in
      let effect = keyed_updated board_row (is_board id) content.boards 2 board_plain refl refl update_text by_id old new is.schema params ran same is.rows.tables.boards replaced set updates
      (λ r. refl) (λ board. rw (cast_null, cast_integer (pos board.id), cast_integer (pos low)) refl) in
      boards_changed content _ old.now new.now effect.1 is effect.0
      (still_fit FitsBoard (is_board id) set (λ board was. record { id = was.id; title = was.title; low = fits }) content.boards is.rows.tables.fits.boards);
}

-- ---- the title of a board

abbrev pub title_text : List ℕ
title_text = codes "UPDATE board SET title = ?2 WHERE id = ?1"

-- the rowid of the row that goes, and then the row that stands in its place
abbrev renamed : List Term
renamed = col 1 0 ∷ col 1 0 ∷ lit Null ∷ col 0 1 ∷ col 1 3 ∷ []

renames : Means title_text (Update 2 (program_of (query_of board_tree by_id renamed [])))
unfolding understood everything
renames = record { is = refl; bare = (refl, refl) }

pub update_title : (old new : State) (id : ℕ) (title : List ℕ) → IsUtf8 title → Ran title_text (Int (pos id) ∷ Text title ∷ []) old new → Changes (with_title id title) old new
update_title old new id title fits ran = record {
  shown = ran.1.1;
  content = λ content is.
      let params = Int (pos id) ∷ Text title ∷ [] in
      let set = λ (board : BoardRow). let changed : BoardRow = record board { title = title } in changed in
      let same = each (λ (board : BoardRow). and_true _ ∙ equal_numbers board.id id) content.boards in
      let effect = keyed_updated board_row (is_board id) content.boards 2 board_plain refl refl title_text by_id old new is.schema params ran same is.rows.tables.boards renamed set renames
      (λ r. refl) (λ board. rw (cast_null, cast_integer (pos board.id), cast_integer (pos board.low)) refl) in
      boards_changed content _ old.now new.now effect.1 is effect.0
      (still_fit FitsBoard (is_board id) set (λ board was. record { id = was.id; title = fits; low = was.low }) content.boards is.rows.tables.fits.boards);
}

-- ---- queries

abbrev shown_terms : List Term
shown_terms = col 1 0 ∷ col 1 2 ∷ col 1 3 ∷ []

abbrev names : List (List ℕ)
names = codes "id" ∷ codes "title" ∷ codes "low" ∷ []

abbrev pub select_text : List ℕ
select_text = codes "SELECT id, title, low FROM board ORDER BY id"

abbrev in_order : List (Term × Key)
in_order = (col 1 0, ascending Binary) ∷ []

asks : Asks select_text board_tree [] shown_terms in_order
unfolding understood everything
asks = record { names = names; means = record { is = refl; bare = (refl, refl) }; unlisted = refl }

abbrev out : BoardRow → Output
out row = output_at board_tree refl [] shown_terms in_order [] (board_row row)

lower : (a b : BoardRow) → IsBoardBefore a b → output_cmp (query_of board_tree [] shown_terms in_order) (out a) (out b) ≡ Less
lower a b before = rw value_cmp-Int (grind (arith, ints, nat_tests))

pub looking_at_boards : (old new : State) (rows : List Row) → IsTrue old.in_transaction → Shown select_text [] old new rows → Changes (λ content. content) old new
looking_at_boards old new rows inside shown = looks_on select_text board_tree [] shown_terms in_order asks old new [] rows inside shown

pub select_boards : (old new : State) (rows : List Row) → Shown select_text [] old new rows → Finds (λ content. AreFound IsBoardBefore content.boards (map board_of rows)) old
select_boards old new rows shown = record {
  was_open = shown_open select_text _ old new rows shown;
  found = λ content is.
      let answer = keyed_shown board_row (λ row. true) content.boards board_tree refl select_text [] shown_terms in_order asks old new [] rows is.schema shown (each (λ row. refl) _) is.rows.tables.boards in
      subst (λ all. AreFound IsBoardBefore all (map board_of rows)) (all_left content.boards)
      (found board_of (query_of board_tree [] shown_terms in_order) out _ rows (each (λ row. refl) _) answer IsBoardBefore lower);
}

pub select_boards_read : (old new : State) (rows : List Row) → Shown select_text [] old new rows → (content : Content) → IsContent content old.now → All IsBoardRow rows
select_boards_read old new rows shown content is =
    let answer = keyed_shown board_row (λ row. true) content.boards board_tree refl select_text [] shown_terms in_order asks old new [] rows is.schema shown (each (λ row. refl) _) is.rows.tables.boards in
    all_read IsBoardRow _ _ _ rows answer (each_of board_is_read _ (each_left _ (λ row. true) content.boards is.rows.tables.fits.boards))

select_boards_suits : Suits select_text board_tree [] shown_terms in_order []
unfolding understood everything
select_boards_suits = record { whole = refl; given = refl; typed = refl }

pub select_boards_excused : (old new : State) (e : Error) → FailsToQuery select_text [] old new e ⊎ IsTooLate select_text [] old new e → IsExcused old new e
select_boards_excused old new e failed other ready content is = fails_so select_text board_tree [] shown_terms in_order asks _ select_boards_suits old new e is.schema ready other failed

abbrev pub find_text : List ℕ
find_text = codes "SELECT id, title, low FROM board WHERE id = ?1"

asks_one : Asks find_text board_tree by_id shown_terms []
unfolding understood everything
asks_one = record { names = names; means = record { is = refl; bare = (refl, refl) }; unlisted = refl }

pub find_board : (old new : State) (id : ℕ) (rows : List Row) → Shown find_text (Int (pos id) ∷ []) old new rows
    → Finds (λ content. IsOneOf (filter (is_board id) content.boards) (option_map board_of (slice_get rows 0))) old
find_board old new id rows shown = record {
  was_open = shown_open find_text _ old new rows shown;
  found = λ content is.
      let params = Int (pos id) ∷ [] in
      let same = each (λ (row : BoardRow). and_true _ ∙ equal_numbers row.id id) content.boards in
      let answer = keyed_shown board_row (is_board id) content.boards board_tree refl find_text by_id shown_terms [] asks_one old new params rows is.schema shown same is.rows.tables.boards in
      found_one board_of (query_of board_tree by_id shown_terms []) (λ row. output_at board_tree refl by_id shown_terms [] params (board_row row)) _ rows (each (λ row. refl) _) answer;
}

pub find_board_read : (old new : State) (id : ℕ) (rows : List Row) → Shown find_text (Int (pos id) ∷ []) old new rows → (content : Content) → IsContent content old.now → All IsBoardRow rows
find_board_read old new id rows shown content is =
    let params = Int (pos id) ∷ [] in
    let same = each (λ (row : BoardRow). and_true _ ∙ equal_numbers row.id id) content.boards in
    let answer = keyed_shown board_row (is_board id) content.boards board_tree refl find_text by_id shown_terms [] asks_one old new params rows is.schema shown same is.rows.tables.boards in
    all_read IsBoardRow _ _ _ rows answer (each_of board_is_read _ (each_left _ (is_board id) content.boards is.rows.tables.fits.boards))

find_board_suits : (id : ℕ) → Suits find_text board_tree by_id shown_terms [] (Int (pos id) ∷ [])
unfolding understood everything
find_board_suits id = record { whole = refl; given = refl; typed = refl }

pub find_board_excused : (old new : State) (id : ℕ) (e : Error) → FailsToQuery find_text (Int (pos id) ∷ []) old new e ⊎ IsTooLate find_text (Int (pos id) ∷ []) old new e → IsExcused old new e
find_board_excused old new id e failed other ready content is = fails_so find_text board_tree by_id shown_terms [] asks_one _ (find_board_suits id) old new e is.schema ready other failed

-- ---- whether there is one of a number

abbrev pub has_text : List ℕ
has_text = codes "SELECT id FROM board WHERE id = ?1"

abbrev id_alone : List Term
id_alone = col 1 0 ∷ []

asks_whether : Asks has_text board_tree by_id id_alone []
unfolding understood everything
asks_whether = record { names = codes "id" ∷ []; means = record { is = refl; bare = (refl, refl) }; unlisted = refl }

suits : (id : ℕ) → Suits has_text board_tree by_id id_alone [] (Int (pos id) ∷ [])
unfolding understood everything
suits id = record { whole = refl; given = refl; typed = refl }

pub has_board : (old new : State) (id : ℕ) (rows : List Row) → Shown has_text (Int (pos id) ∷ []) old new rows → Finds (λ content. not (length rows == 0) ≡ list_any (is_board id) content.boards) old
has_board old new id rows shown = record {
  was_open = shown_open has_text _ old new rows shown;
  found = λ content is.
      let params = Int (pos id) ∷ [] in
      let same = each (λ (row : BoardRow). and_true _ ∙ equal_numbers row.id id) content.boards in
      let answer = keyed_shown board_row (is_board id) content.boards board_tree refl has_text by_id id_alone [] asks_whether old new params rows is.schema shown same is.rows.tables.boards in
      found_any (query_of board_tree by_id id_alone []) (λ row. output_at board_tree refl by_id id_alone [] params (board_row row)) (is_board id) content.boards rows answer;
}

pub board_excused : (old new : State) (id : ℕ) (e : Error) → FailsToQuery has_text (Int (pos id) ∷ []) old new e ⊎ IsTooLate has_text (Int (pos id) ∷ []) old new e → IsExcused old new e
board_excused old new id e failed other ready content is = fails_so has_text board_tree by_id id_alone [] asks_whether _ (suits id) old new e is.schema ready other failed
