-- What the statements on the histories do.
use Rattle.std.proofs.Common.{◌≡◌, ◌∙◌, ◌<◌, ◌^◌, ◌&&◌, ℕ, pos, List, [], ◌∷◌, map, reverse, drop, take, codes, true, Option, Some, None, option_map, slice_get, refl, sym, ap, ap₂, subst, arith}
use Rattle.std.specs.Prelude.{filter, ◌==◌}
use Rattle.std.specs.declared.cmp.Ordering.TheVariants.{Less}
use Rattle.std.proofs.lemmas.Int.{ints}
use Rattle.std.proofs.lemmas.Bool.Decides.{nat_tests}
use Rattle.sqlite_value.specs.declared.keys.Collation.TheVariants.{Binary}
use Rattle.sqlite_value.specs.declared.keys.Key.{Key}
use Rattle.sqlite_value.specs.declared.value.Value.TheVariants.{Null, Int}
use Rattle.sqlite_value.specs.Keys.{ascending}
use Rattle.sqlite_value.specs.Order.{Row, column}
use Rattle.sqlite_value.proofs.OrderLemmas.{value_cmp-Int}
use Rattle.sqlite_sql.specs.Query.{Output, output_cmp}
use Rattle.sqlite_sql.specs.Term.{Term, lit, col}
use Rattle.sqlite_schema.specs.declared.command.Command.TheVariants.{Insert}
use Rattle.sqlite_schema.specs.declared.command.Source.TheVariants.{Values}
use Rattle.sqlite_schema.specs.declared.schema.Kind.TheVariants.{Integer}
use Rattle.sqlite_rules.specs.Cast.{cast}
use Rattle.sqlite_tied.specs.Compute.{everything}
use Rattle.sqlite.specs.Listing.{understood}
use Rattle.sqlite.specs.State.{State, Shown}
use Rattle.sqlite.specs.Values.{or_null, bound_value}
use Rattle.tb_sql_tables.specs.declared.rows.HistoryRow.{HistoryRow}
use Rattle.tb_sql_tables.specs.Tables.{history_plain, history_table, history_tree, store_schema}
use Rattle.tb_sql_tables.specs.Rows.{history_row}
use Rattle.tb_sql_tables.specs.Read.{number_of}
use Rattle.tb_sql_tables.specs.Fitting.{FitsEntry}
use Rattle.tb_sql_tables.specs.Statements.{Changes, Finds, Ran}
use Rattle.tb_sql_tables.specs.Found.{AreFound}
use Rattle.tb_sql_tables.proofs.Contents.{history_changed}
use Rattle.tb_sql_tables.proofs.Effects.{each, each_of, each_left, cells_shown, found}
use Rattle.tb_sql_tables.proofs.Inserts.{row_put, cast_integer, cast_null}
use Rattle.tb_sql_tables.proofs.Inside.{shown_open}
use Rattle.tb_sql_tables.proofs.KeyTests.{by_one, has_one, one_tested, equal_numbers}
use Rattle.tb_sql_tables.proofs.Queries.{query_of, output_at}
use Rattle.tb_sql_tables.proofs.Statements.{Means, Asks, row_inserted}
use Rattle.uuid.proofs.OrderLemmas.{from_be_bytes-to_be_bytes_16}
use Rattle.tb_sql_pages.specs.Entries.{with_entry, is_entry_between, is_entry_of, IsEntryBefore, IsBelow}
use Rattle.tb_sql_pages.specs.Last.{AreLast, listed}
use Rattle.tb_sql_pages.specs.Read.{place_of, history_of}
use Rattle.tb_sql_pages.proofs.RangeTests.{in_range, has_range, range_tested, number_from, number_to, by_task, has_task, task_tested, equal_optional}
use Rattle.tb_sql_pages.proofs.Turned.{listed_turned}
use Rattle.tb_sql_pages.proofs.Limits.{AsksUpTo, IsStartOf, cells_first, found_last, start_of_each}

-- ---- a row goes in

abbrev pub insert_text : List ℕ
insert_text = codes "INSERT INTO history (board, number, moment, person, call, what, task) VALUES (?1, ?2, ?3, ?4, ?5, ?6, ?7)"

abbrev terms : List Term
terms = lit Null ∷ col 0 0 ∷ col 0 1 ∷ col 0 2 ∷ col 0 3 ∷ col 0 4 ∷ col 0 5 ∷ col 0 6 ∷ []

inserts : Means insert_text (Insert 10 (Values terms 8))
unfolding understood everything
inserts = record { is = refl; bare = (refl, refl) }

-- a place that may not be there is bound, stored and read as it is
pub place_bound : (place : Option ℕ) → bound_value (or_null (λ n. Int (pos n)) place) ≡ or_null (λ n. Int (pos n)) place
place_bound None = refl
place_bound (Some n) = refl

cast_place : (place : Option ℕ) → cast Integer (or_null (λ n. Int (pos n)) place) ≡ or_null (λ n. Int (pos n)) place
cast_place None = cast_null
cast_place (Some n) = cast_integer (pos n)

place_read : (place : Option ℕ) → place_of (or_null (λ n. Int (pos n)) place) ≡ place
place_read None = refl
place_read (Some n) = refl

pub insert_entry : (old new : State) (row : HistoryRow) → FitsEntry row → row.call < 2 ^ 128 → Ran insert_text (history_row row) old new → Changes (with_entry row) old new
insert_entry old new row fits low ran = record {
  shown = ran.1.1;
  content = λ content is.
      let cells = history_row row in
      let effect = row_inserted 10 history_plain refl refl insert_text old new is.schema cells ran.0 terms 8 (Null ∷ cells) inserts refl ran.1 in
      history_changed content (row ∷ content.history) old.now new.now effect.1 is
      (row_put store_schema old.now.trees new.now.trees history_table (Null ∷ cells) cells _ (rw (cast_null, cast_integer (pos row.board), cast_integer (pos row.number), cast_integer (pos row.moment), cast_integer (pos row.person), cast_integer (pos row.what), cast_place row.task) refl) effect.0 is.rows.tables.history) (low, is.rows.tables.history_identifiers) (fits, is.rows.tables.fits.history);
}

-- ---- entries

abbrev shown_terms : List Term
shown_terms = col 1 1 ∷ col 1 2 ∷ col 1 3 ∷ col 1 4 ∷ col 1 5 ∷ col 1 6 ∷ col 1 7 ∷ []

abbrev names : List (List ℕ)
names = codes "board" ∷ codes "number" ∷ codes "moment" ∷ codes "person" ∷ codes "call" ∷ codes "what" ∷ codes "task" ∷ []

abbrev columns : Row → Row
columns cells = column cells 0 ∷ column cells 1 ∷ column cells 2 ∷ column cells 3 ∷ column cells 4 ∷ column cells 5 ∷ column cells 6 ∷ []

-- an entry is read back
history_read : (row : HistoryRow) → row.call < 2 ^ 128 → history_of (columns (history_row row)) ≡ row
history_read row low = λ i.
    let read : HistoryRow = record { board = row.board; number = row.number; moment = row.moment; person = row.person; call = from_be_bytes-to_be_bytes_16 row.call low i; what = row.what; task = place_read row.task i } in
    read

abbrev out : Row → Output
out cells = (column cells 1 ∷ [], columns cells)

-- ---- those from one number to another

abbrev in_order : List (Term × Key)
in_order = (col 1 2, ascending Binary) ∷ []

abbrev pub between_text : List ℕ
between_text = codes "SELECT board, number, moment, person, call, what, task FROM history WHERE board = ?1 AND number >= ?2 AND number <= ?3 ORDER BY number"

asks_between : Asks between_text history_tree in_range shown_terms in_order
unfolding understood everything
asks_between = record { names = names; means = record { is = refl; bare = (refl, refl) }; unlisted = refl }

shows_between : (params row : Row) → output_at history_tree refl in_range shown_terms in_order params row ≡ out (drop 1 row)
shows_between params [] = refl
shows_between params (id ∷ cells) = refl

lower : (a b : HistoryRow) → IsEntryBefore a b → output_cmp (query_of history_tree in_range shown_terms in_order) (out (history_row a)) (out (history_row b)) ≡ Less
lower a b before = rw value_cmp-Int (grind (arith, ints, nat_tests))

pub entries_between : (old new : State) (board first last : ℕ) (rows : List Row) → Shown between_text (Int (pos board) ∷ Int (pos first) ∷ Int (pos last) ∷ []) old new rows
    → Finds (λ content. AreFound IsEntryBefore (filter (is_entry_between board first last) content.history) (map history_of rows)) old
entries_between old new board first last rows shown = record {
  was_open = shown_open between_text _ old new rows shown;
  found = λ content is.
      let params = Int (pos board) ∷ Int (pos first) ∷ Int (pos last) ∷ [] in
      let same = each (λ (row : HistoryRow). ap₂ ◌&&◌ (equal_numbers row.board board) (ap₂ ◌&&◌ (number_from row.number first) (number_to row.number last))) content.history in
      let answer = cells_shown history_row (is_entry_between board first last) content.history history_tree refl between_text in_range shown_terms in_order asks_between old new params rows is.schema shown
      (has_range (Int (pos board)) (Int (pos first)) (Int (pos last))) out (range_tested (Int (pos board)) (Int (pos first)) (Int (pos last)) []) (shows_between params) same is.rows.tables.history in
      found history_of (query_of history_tree in_range shown_terms in_order) (λ row. out (history_row row)) _ rows (each_of history_read _ (each_left _ _ content.history is.rows.tables.history_identifiers)) answer IsEntryBefore lower;
}

-- ---- the last ones of a task

abbrev falling : Key
falling = record { collation = Binary; descending = true }

abbrev from_last : List (Term × Key)
from_last = (col 1 2, falling) ∷ []

abbrev pub task_text : List ℕ
task_text = codes "SELECT board, number, moment, person, call, what, task FROM history WHERE board = ?1 AND task = ?2 ORDER BY number DESC LIMIT 100"

asks_task : AsksUpTo 100 task_text history_tree by_task shown_terms from_last
unfolding understood everything
asks_task = record { names = names; means = record { is = refl; bare = (refl, refl) }; unlisted = refl }

shows_task : (params row : Row) → output_at history_tree refl by_task shown_terms from_last params row ≡ out (drop 1 row)
shows_task params [] = refl
shows_task params (id ∷ cells) = refl

later : (a b : HistoryRow) → IsEntryBefore b a → output_cmp (query_of history_tree by_task shown_terms from_last) (out (history_row a)) (out (history_row b)) ≡ Less
later a b before = rw value_cmp-Int (grind (arith, ints, nat_tests))

pub entries_of_task : (old new : State) (board place : ℕ) (rows : List Row) → Shown task_text (Int (pos board) ∷ Int (pos place) ∷ []) old new rows
    → Finds (λ content. AreLast IsEntryBefore 100 (filter (is_entry_of board place) content.history) (reverse (map history_of rows))) old
entries_of_task old new board place rows shown = record {
  was_open = shown_open task_text _ old new rows shown;
  found = λ content is.
      let params = Int (pos board) ∷ Int (pos place) ∷ [] in
      let same = each (λ (row : HistoryRow). ap₂ ◌&&◌ (equal_numbers row.board board) (equal_optional row.task place)) content.history in
      let start = cells_first history_row (is_entry_of board place) content.history 100 history_tree refl task_text by_task shown_terms from_last asks_task old new params rows is.schema shown
      (has_task (Int (pos board)) (Int (pos place))) out (task_tested (Int (pos board)) (Int (pos place)) []) (shows_task params) same is.rows.tables.history in
      found_last history_of 100 (query_of history_tree by_task shown_terms from_last) (λ row. out (history_row row)) _ rows (each_of history_read _ (each_left _ _ content.history is.rows.tables.history_identifiers)) start IsEntryBefore later;
}

-- ---- the last number

abbrev number_alone : List Term
number_alone = col 1 2 ∷ []

abbrev pub last_text : List ℕ
last_text = codes "SELECT number FROM history WHERE board = ?1 ORDER BY number DESC LIMIT 1"

asks_last : AsksUpTo 1 last_text history_tree by_one number_alone from_last
unfolding understood everything
asks_last = record { names = codes "number" ∷ []; means = record { is = refl; bare = (refl, refl) }; unlisted = refl }

abbrev out_last : Row → Output
out_last cells = (column cells 1 ∷ [], column cells 1 ∷ [])

abbrev out_number : ℕ → Output
out_number number = (Int (pos number) ∷ [], Int (pos number) ∷ [])

shows_last : (params row : Row) → output_at history_tree refl by_one number_alone from_last params row ≡ out_last (drop 1 row)
shows_last params [] = refl
shows_last params (id ∷ cells) = refl

higher : (a b : ℕ) → IsBelow b a → output_cmp (query_of history_tree by_one number_alone from_last) (out_number a) (out_number b) ≡ Less
higher a b before = rw value_cmp-Int (grind (arith, ints, nat_tests))

abbrev in_first : List Row → Option ℕ
in_first rows = option_map (λ cells. number_of (column cells 0)) (slice_get rows 0)

-- of one row at most the first is all
one_at_most : (rows all : List Row) → rows ≡ take 1 all → map (λ cells. number_of (column cells 0)) rows ≡ listed (in_first rows)
one_at_most rows all is = ap (map (λ cells. number_of (column cells 0))) is ∙ short all ∙ ap (λ l. listed (in_first l)) (sym is)
  where
    short : (all : List Row) → map (λ cells. number_of (column cells 0)) (take 1 all) ≡ listed (in_first (take 1 all))
    short [] = refl
    short (r ∷ rest) = refl

pub last_number : (old new : State) (board : ℕ) (rows : List Row) → Shown last_text (Int (pos board) ∷ []) old new rows
    → Finds (λ content. AreLast IsBelow 1 (map (λ row. row.number) (filter (λ row. row.board == board) content.history)) (listed (option_map (λ cells. number_of (column cells 0)) (slice_get rows 0)))) old
last_number old new board rows shown = record {
  was_open = shown_open last_text _ old new rows shown;
  found = λ content is.
      let params = Int (pos board) ∷ [] in
      let same = each (λ (row : HistoryRow). equal_numbers row.board board) content.history in
      let start = cells_first history_row (λ row. row.board == board) content.history 1 history_tree refl last_text by_one number_alone from_last asks_last old new params rows is.schema shown
      (has_one (Int (pos board))) out_last (one_tested (Int (pos board)) []) (shows_last params) same is.rows.tables.history in
      let each_start : IsStartOf 1 (query_of history_tree by_one number_alone from_last) out_number (map (λ (row : HistoryRow). row.number) (filter (λ row. row.board == board) content.history)) rows =
      start_of_each (λ (row : HistoryRow). row.number) 1 _ out_number _ rows start in
      let last = found_last (λ cells. number_of (column cells 0)) 1 (query_of history_tree by_one number_alone from_last) out_number _ rows (each (λ number. refl) _) each_start IsBelow higher in
      subst (AreLast IsBelow 1 _) (ap reverse (one_at_most rows start.all start.first) ∙ listed_turned (in_first rows)) last;
}
