-- What the statements on kept replies do.
use Rattle.std.proofs.Common.{◌≡◌, ◌<◌, ◌^◌, ◌&&◌, ℕ, pos, List, [], ◌∷◌, drop, map, codes, true, option_map, slice_get, refl, subst, ap₂, IsPermutation, All, ◌⊎◌}
use Rattle.std.specs.Prelude.{filter}
use Rattle.std.specs.Int.{to_be_bytes, w128}
use Rattle.sqlite_value.specs.declared.value.Value.TheVariants.{Null, Int, Blob}
use Rattle.sqlite_value.specs.Order.{Row, column}
use Rattle.sqlite_sql.specs.Query.{Output}
use Rattle.sqlite_sql.specs.Term.{Term, lit, col}
use Rattle.sqlite_schema.specs.declared.command.Command.TheVariants.{Insert}
use Rattle.sqlite_schema.specs.declared.command.Source.TheVariants.{Values}
use Rattle.sqlite_tied.specs.Compute.{everything}
use Rattle.sqlite.specs.Listing.{understood}
use Rattle.sqlite.specs.State.{State, Shown, FailsToQuery, IsTooLate}
use Rattle.tb_sql_tables.specs.declared.rows.KeptRow.{KeptRow}
use Rattle.tb_sql_tables.specs.Tables.{kept_plain, kept_table, kept_tree, store_schema}
use Rattle.tb_sql_tables.specs.Rows.{kept_row}
use Rattle.tb_sql_tables.specs.Read.{kept_of, IsKeptRow}
use Rattle.tb_sql_tables.specs.Statements.{Changes, Finds, Ran}
use Rattle.tb_sql_tables.specs.Found.{IsOneOf}
use Rattle.tb_sql_tables.proofs.Contents.{kept_changed}
use Rattle.tb_sql_tables.proofs.Effects.{each, all_left, each_of, each_left, cells_shown, found_one, found_same}
use Rattle.tb_sql_tables.proofs.Inserts.{row_put, cast_integer, cast_null}
use Rattle.tb_sql_tables.proofs.Inside.{shown_open}
use Rattle.tb_sql_tables.proofs.KeyTests.{by_two, has_two, two_tested, equal_numbers, equal_identifiers}
use Rattle.tb_sql_tables.proofs.Queries.{query_of, output_at}
use Rattle.tb_sql_tables.proofs.Statements.{Means, Asks, row_inserted}
use Rattle.uuid.proofs.OrderLemmas.{from_be_bytes-to_be_bytes_16}
use Rattle.tb_sql.specs.Changes.{with_kept, is_kept}
use Rattle.tb_sql_tables.specs.Failing.{IsExcused}
use Rattle.tb_sql_tables.specs.Content.{Content, IsContent}
use Rattle.tb_sql_tables.proofs.Failing.{Suits, fails_so}
use Rattle.tb_sql_tables.proofs.Fitted.{all_read, kept_read as kept_is_read}
use Rattle.sqlite.specs.declared.error.Error.{Error}
use Rattle.tb_sql_tables.specs.Fitting.{FitsKept}

-- ---- a row goes in

abbrev pub insert_text : List ℕ
insert_text = codes "INSERT INTO kept (person, id, content, number, status, body) VALUES (?1, ?2, ?3, ?4, ?5, ?6)"

abbrev terms : List Term
terms = lit Null ∷ col 0 0 ∷ col 0 1 ∷ col 0 2 ∷ col 0 3 ∷ col 0 4 ∷ col 0 5 ∷ []

inserts : Means insert_text (Insert 8 (Values terms 7))
unfolding understood everything
inserts = record { is = refl; bare = (refl, refl) }

pub insert_kept : (old new : State) (row : KeptRow) → FitsKept row → row.id < 2 ^ 128 → Ran insert_text (kept_row row) old new → Changes (with_kept row) old new
insert_kept old new row fits low ran = record {
  shown = ran.1.1;
  content = λ content is.
      let cells = kept_row row in
      let effect = row_inserted 8 kept_plain refl refl insert_text old new is.schema cells ran.0 terms 7 (Null ∷ cells) inserts refl ran.1 in
      kept_changed content (row ∷ content.kept) old.now new.now effect.1 is
      (row_put store_schema old.now.trees new.now.trees kept_table (Null ∷ cells) cells _ (rw (cast_null, cast_integer (pos row.person), cast_integer (pos row.number), cast_integer (pos row.status)) refl) effect.0 is.rows.tables.kept) (low, is.rows.tables.kept_identifiers) (fits, is.rows.tables.fits.kept);
}

-- ---- queries

abbrev shown_terms : List Term
shown_terms = col 1 1 ∷ col 1 2 ∷ col 1 3 ∷ col 1 4 ∷ col 1 5 ∷ col 1 6 ∷ []

abbrev names : List (List ℕ)
names = codes "person" ∷ codes "id" ∷ codes "content" ∷ codes "number" ∷ codes "status" ∷ codes "body" ∷ []

abbrev columns : Row → Row
columns cells = column cells 0 ∷ column cells 1 ∷ column cells 2 ∷ column cells 3 ∷ column cells 4 ∷ column cells 5 ∷ []

-- a reply is read back
kept_read : (kept : KeptRow) → kept.id < 2 ^ 128 → kept_of (columns (kept_row kept)) ≡ kept
kept_read kept low = λ i.
    let read : KeptRow = record { person = kept.person; id = from_be_bytes-to_be_bytes_16 kept.id low i; content = kept.content; number = kept.number; status = kept.status; body = kept.body } in
    read

abbrev pub find_text : List ℕ
find_text = codes "SELECT person, id, content, number, status, body FROM kept WHERE person = ?1 AND id = ?2"

asks_one : Asks find_text kept_tree by_two shown_terms []
unfolding understood everything
asks_one = record { names = names; means = record { is = refl; bare = (refl, refl) }; unlisted = refl }

abbrev out_one : Row → Output
out_one cells = ([], columns cells)

shows_one : (params row : Row) → output_at kept_tree refl by_two shown_terms [] params row ≡ out_one (drop 1 row)
shows_one params [] = refl
shows_one params (id ∷ cells) = refl

pub find_kept : (old new : State) (person id : ℕ) → id < 2 ^ 128 → (rows : List Row) → Shown find_text (Int (pos person) ∷ Blob (to_be_bytes w128 id) ∷ []) old new rows
    → Finds (λ content. IsOneOf (filter (is_kept person id) content.kept) (option_map kept_of (slice_get rows 0))) old
find_kept old new person id low rows shown = record {
  was_open = shown_open find_text _ old new rows shown;
  found = λ content is.
      let params = Int (pos person) ∷ Blob (to_be_bytes w128 id) ∷ [] in
      let same = each_of (λ (row : KeptRow) own. ap₂ ◌&&◌ (equal_numbers row.person person) (equal_identifiers row.id id own low)) content.kept is.rows.tables.kept_identifiers in
      let answer = cells_shown kept_row (is_kept person id) content.kept kept_tree refl find_text by_two shown_terms [] asks_one old new params rows is.schema shown
      (has_two (Int (pos person)) (Blob (to_be_bytes w128 id))) out_one (two_tested (Int (pos person)) (Blob (to_be_bytes w128 id)) []) (shows_one params) same is.rows.tables.kept in
      found_one kept_of (query_of kept_tree by_two shown_terms []) (λ row. out_one (kept_row row)) _ rows (each_of kept_read _ (each_left _ _ content.kept is.rows.tables.kept_identifiers)) answer;
}

pub find_kept_read : (old new : State) (person id : ℕ) → id < 2 ^ 128 → (rows : List Row) → Shown find_text (Int (pos person) ∷ Blob (to_be_bytes w128 id) ∷ []) old new rows → (content : Content) → IsContent content old.now → All IsKeptRow rows
find_kept_read old new person id low rows shown content is =
    let params = Int (pos person) ∷ Blob (to_be_bytes w128 id) ∷ [] in
    let same = each_of (λ (row : KeptRow) own. ap₂ ◌&&◌ (equal_numbers row.person person) (equal_identifiers row.id id own low)) content.kept is.rows.tables.kept_identifiers in
    let answer = cells_shown kept_row (is_kept person id) content.kept kept_tree refl find_text by_two shown_terms [] asks_one old new params rows is.schema shown
    (has_two (Int (pos person)) (Blob (to_be_bytes w128 id))) out_one (two_tested (Int (pos person)) (Blob (to_be_bytes w128 id)) []) (shows_one params) same is.rows.tables.kept in
    all_read IsKeptRow _ _ _ rows answer (each_of kept_is_read _ (each_left _ (is_kept person id) content.kept is.rows.tables.fits.kept))

find_kept_suits : (person id : ℕ) → Suits find_text kept_tree by_two shown_terms [] (Int (pos person) ∷ Blob (to_be_bytes w128 id) ∷ [])
unfolding understood everything
find_kept_suits person id = record { whole = refl; given = refl; typed = refl }

pub find_kept_excused : (old new : State) (person id : ℕ) (e : Error) → FailsToQuery find_text (Int (pos person) ∷ Blob (to_be_bytes w128 id) ∷ []) old new e ⊎ IsTooLate find_text (Int (pos person) ∷ Blob (to_be_bytes w128 id) ∷ []) old new e → IsExcused old new e
find_kept_excused old new person id e failed other ready content is = fails_so find_text kept_tree by_two shown_terms [] asks_one _ (find_kept_suits person id) old new e is.schema ready other failed

abbrev pub select_text : List ℕ
select_text = codes "SELECT person, id, content, number, status, body FROM kept"

asks_all : Asks select_text kept_tree [] shown_terms []
unfolding understood everything
asks_all = record { names = names; means = record { is = refl; bare = (refl, refl) }; unlisted = refl }

shows_all : (row : Row) → output_at kept_tree refl [] shown_terms [] [] row ≡ out_one (drop 1 row)
shows_all [] = refl
shows_all (id ∷ cells) = refl

pub select_kept : (old new : State) (rows : List Row) → Shown select_text [] old new rows → Finds (λ content. IsPermutation content.kept (map kept_of rows)) old
select_kept old new rows shown = record {
  was_open = shown_open select_text _ old new rows shown;
  found = λ content is.
      let answer = cells_shown kept_row (λ row. true) content.kept kept_tree refl select_text [] shown_terms [] asks_all old new [] rows is.schema shown
      (λ cells. true) out_one (λ r. refl) shows_all (each (λ row. refl) _) is.rows.tables.kept in
      subst (λ all. IsPermutation all (map kept_of rows)) (all_left content.kept)
      (found_same kept_of (query_of kept_tree [] shown_terms []) (λ row. out_one (kept_row row)) _ rows (each_of kept_read _ (each_left (λ (row : KeptRow). row.id < 2 ^ 128) (λ row. true) content.kept is.rows.tables.kept_identifiers)) answer);
}

pub select_kept_read : (old new : State) (rows : List Row) → Shown select_text [] old new rows → (content : Content) → IsContent content old.now → All IsKeptRow rows
select_kept_read old new rows shown content is =
    let answer = cells_shown kept_row (λ row. true) content.kept kept_tree refl select_text [] shown_terms [] asks_all old new [] rows is.schema shown
    (λ cells. true) out_one (λ r. refl) shows_all (each (λ row. refl) _) is.rows.tables.kept in
    all_read IsKeptRow _ _ _ rows answer (each_of kept_is_read _ (each_left _ (λ row. true) content.kept is.rows.tables.fits.kept))

select_kept_suits : Suits select_text kept_tree [] shown_terms [] []
unfolding understood everything
select_kept_suits = record { whole = refl; given = refl; typed = refl }

pub select_kept_excused : (old new : State) (e : Error) → FailsToQuery select_text [] old new e ⊎ IsTooLate select_text [] old new e → IsExcused old new e
select_kept_excused old new e failed other ready content is = fails_so select_text kept_tree [] shown_terms [] asks_all _ select_kept_suits old new e is.schema ready other failed
