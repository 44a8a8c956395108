-- What the statements on how far ahead the boards look do.
use Rattle.std.proofs.Common.{◌≡◌, ◌∙◌, ℕ, pos, List, [], ◌∷◌, codes, option_map, slice_get, refl, All, ◌⊎◌, ◌<◌, ◌^◌}
use Rattle.std.specs.Prelude.{filter}
use Rattle.sqlite_value.specs.declared.value.Value.TheVariants.{Null, Int}
use Rattle.sqlite_value.specs.Order.{Row}
use Rattle.sqlite_sql.specs.Term.{Term, lit, col}
use Rattle.sqlite_schema.specs.declared.command.Command.TheVariants.{Insert, Update}
use Rattle.sqlite_schema.specs.declared.command.Source.TheVariants.{Values}
use Rattle.sqlite_tied.specs.Compute.{everything}
use Rattle.sqlite.specs.Listing.{understood}
use Rattle.sqlite.specs.State.{State, Shown, FailsToQuery, IsTooLate}
use Rattle.tb_sql_tables.specs.declared.rows.HorizonRow.{HorizonRow}
use Rattle.tb_sql_tables.specs.Tables.{horizon_plain, horizon_table, horizon_tree, store_schema}
use Rattle.tb_sql_tables.specs.Rows.{horizon_row}
use Rattle.tb_sql_tables.specs.Read.{horizon_of, IsHorizonRow}
use Rattle.tb_sql_tables.specs.Statements.{Changes, Finds, Ran}
use Rattle.tb_sql_tables.specs.Found.{IsOneOf}
use Rattle.tb_sql_tables.proofs.Contents.{horizon_changed}
use Rattle.tb_sql_tables.proofs.Effects.{each, keyed_updated, keyed_shown, found_one, each_of, each_left}
use Rattle.tb_sql_tables.proofs.Inserts.{cast_integer, cast_null}
use Rattle.tb_sql_tables.proofs.Inside.{shown_open}
use Rattle.tb_sql_tables.proofs.Keyed.{keyed_put}
use Rattle.tb_sql_tables.proofs.KeyTests.{equal, equal_numbers}
use Rattle.tb_sql_tables.proofs.Queries.{query_of, program_of, output_at}
use Rattle.tb_sql_tables.proofs.SqlTests.{and_true}
use Rattle.tb_sql_tables.proofs.Statements.{Means, Asks, row_inserted}
use Rattle.tb_sql.specs.Changes.{with_ahead, with_horizon, is_horizon}
use Rattle.tb_sql_tables.specs.Failing.{IsExcused}
use Rattle.tb_sql_tables.specs.Content.{Content, IsContent}
use Rattle.tb_sql_tables.proofs.Failing.{Suits, fails_so}
use Rattle.tb_sql_tables.proofs.Fitted.{all_read, horizon_read as horizon_is_read, still_fit}
use Rattle.sqlite.specs.declared.error.Error.{Error}
use Rattle.tb_sql_tables.specs.Fitting.{FitsHorizon}

-- ---- a row goes in

abbrev pub insert_text : List ℕ
insert_text = codes "INSERT INTO horizon (board, ahead) VALUES (?1, ?2)"

abbrev terms : List Term
terms = col 0 0 ∷ lit Null ∷ col 0 1 ∷ []

inserts : Means insert_text (Insert 9 (Values terms 3))
unfolding understood everything
inserts = record { is = refl; bare = (refl, refl) }

abbrev pub row_params : HorizonRow → Row
row_params row = Int (pos row.board) ∷ Int (pos row.ahead) ∷ []

pub insert_horizon : (old new : State) (row : HorizonRow) → FitsHorizon row → Ran insert_text (row_params row) old new → Changes (with_horizon row) old new
insert_horizon old new row fits ran = record {
  shown = ran.1.1;
  content = λ content is.
      let cells : Row = Null ∷ Int (pos row.ahead) ∷ [] in
      let effect = row_inserted 9 horizon_plain refl refl insert_text old new is.schema (row_params row) ran.0 terms 3 (horizon_row row) inserts refl ran.1 in
      horizon_changed content (row ∷ content.horizon) old.now new.now effect.1 is
      (keyed_put store_schema old.now.trees new.now.trees horizon_table (horizon_row row) (pos row.board) cells _ (rw (cast_null, cast_integer (pos row.board), cast_integer (pos row.ahead)) refl) effect.0 is.rows.tables.horizon) (fits, is.rows.tables.fits.horizon);
}

-- ---- how far a board looks ahead is set

abbrev pub update_text : List ℕ
update_text = codes "UPDATE horizon SET ahead = ?2 WHERE board = ?1"

abbrev by_board : List Term
by_board = equal 0 0 ∷ []

-- the rowid of the row that goes, and then the row that stands in its place
abbrev replaced : List Term
replaced = col 1 0 ∷ col 1 0 ∷ lit Null ∷ col 0 1 ∷ []

updates : Means update_text (Update 9 (program_of (query_of horizon_tree by_board replaced [])))
unfolding understood everything
updates = record { is = refl; bare = (refl, refl) }

pub update_horizon : (old new : State) (board ahead : ℕ) → ahead < 2 ^ 32 → Ran update_text (Int (pos board) ∷ Int (pos ahead) ∷ []) old new → Changes (with_ahead board ahead) old new
update_horizon old new board ahead fits ran = record {
  shown = ran.1.1;
  content = λ content is.
      let params = Int (pos board) ∷ Int (pos ahead) ∷ [] in
      let set = λ (horizon : HorizonRow). let changed : HorizonRow = record horizon { ahead = ahead } in changed in
      let same = each (λ (horizon : HorizonRow). and_true _ ∙ equal_numbers horizon.board board) content.horizon in
      let effect = keyed_updated horizon_row (is_horizon board) content.horizon 9 horizon_plain refl refl update_text by_board old new is.schema params ran same is.rows.tables.horizon replaced set updates
      (λ r. refl) (λ horizon. rw (cast_null, cast_integer (pos horizon.board), cast_integer (pos ahead)) refl) in
      horizon_changed content _ old.now new.now effect.1 is effect.0
      (still_fit FitsHorizon (is_horizon board) set (λ horizon was. record { board = was.board; ahead = fits }) content.horizon is.rows.tables.fits.horizon);
}

-- ---- the query

abbrev shown_terms : List Term
shown_terms = col 1 0 ∷ col 1 2 ∷ []

abbrev pub find_text : List ℕ
find_text = codes "SELECT board, ahead FROM horizon WHERE board = ?1"

asks_one : Asks find_text horizon_tree by_board shown_terms []
unfolding understood everything
asks_one = record { names = codes "board" ∷ codes "ahead" ∷ []; means = record { is = refl; bare = (refl, refl) }; unlisted = refl }

pub find_horizon : (old new : State) (board : ℕ) (rows : List Row) → Shown find_text (Int (pos board) ∷ []) old new rows
    → Finds (λ content. IsOneOf (filter (is_horizon board) content.horizon) (option_map horizon_of (slice_get rows 0))) old
find_horizon old new board rows shown = record {
  was_open = shown_open find_text _ old new rows shown;
  found = λ content is.
      let params = Int (pos board) ∷ [] in
      let same = each (λ (row : HorizonRow). and_true _ ∙ equal_numbers row.board board) content.horizon in
      let answer = keyed_shown horizon_row (is_horizon board) content.horizon horizon_tree refl find_text by_board shown_terms [] asks_one old new params rows is.schema shown same is.rows.tables.horizon in
      found_one horizon_of (query_of horizon_tree by_board shown_terms []) (λ row. output_at horizon_tree refl by_board shown_terms [] params (horizon_row row)) _ rows (each (λ row. refl) _) answer;
}

pub find_horizon_read : (old new : State) (board : ℕ) (rows : List Row) → Shown find_text (Int (pos board) ∷ []) old new rows → (content : Content) → IsContent content old.now → All IsHorizonRow rows
find_horizon_read old new board rows shown content is =
    let params = Int (pos board) ∷ [] in
    let same = each (λ (row : HorizonRow). and_true _ ∙ equal_numbers row.board board) content.horizon in
    let answer = keyed_shown horizon_row (is_horizon board) content.horizon horizon_tree refl find_text by_board shown_terms [] asks_one old new params rows is.schema shown same is.rows.tables.horizon in
    all_read IsHorizonRow _ _ _ rows answer (each_of horizon_is_read _ (each_left _ (is_horizon board) content.horizon is.rows.tables.fits.horizon))

find_horizon_suits : (board : ℕ) → Suits find_text horizon_tree by_board shown_terms [] (Int (pos board) ∷ [])
unfolding understood everything
find_horizon_suits board = record { whole = refl; given = refl; typed = refl }

pub find_horizon_excused : (old new : State) (board : ℕ) (e : Error) → FailsToQuery find_text (Int (pos board) ∷ []) old new e ⊎ IsTooLate find_text (Int (pos board) ∷ []) old new e → IsExcused old new e
find_horizon_excused old new board e failed other ready content is = fails_so find_text horizon_tree by_board shown_terms [] asks_one _ (find_horizon_suits board) old new e is.schema ready other failed
