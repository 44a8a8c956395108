-- What the statements on tasks do.
use Rattle.std.proofs.Common.{◌≡◌, ◌<◌, ◌^◌, ◌&&◌, ℕ, pos, List, [], ◌∷◌, map, drop, codes, Bool, true, false, cond, Option, option_map, slice_get, refl, sym, ap₂, subst, arith, All, ◌⊎◌, IsUtf8, IfSome}
use Rattle.std.specs.Prelude.{filter, ◌==◌}
use Rattle.std.specs.declared.cmp.Ordering.TheVariants.{Less}
use Rattle.std.proofs.lemmas.Int.{ints}
use Rattle.std.proofs.lemmas.Bool.Decides.{nat_tests}
use Rattle.sqlite_value.specs.declared.keys.Collation.TheVariants.{Binary}
use Rattle.sqlite_value.specs.declared.keys.Key.{Key}
use Rattle.sqlite_value.specs.declared.value.Value.TheVariants.{Null, Int, Text}
use Rattle.sqlite_value.specs.Keys.{ascending}
use Rattle.sqlite_value.specs.Order.{Row, column}
use Rattle.sqlite_value.proofs.OrderLemmas.{value_cmp-Int}
use Rattle.sqlite_sql.specs.Query.{Output, output_cmp}
use Rattle.sqlite_sql.specs.Term.{Term, lit, col, eval_all}
use Rattle.sqlite_schema.specs.declared.schema.Kind.TheVariants.{Integer, Text as TextKind}
use Rattle.sqlite_schema.specs.declared.command.Command.TheVariants.{Insert, Update}
use Rattle.sqlite_schema.specs.declared.command.Source.TheVariants.{Values}
use Rattle.sqlite_rules.specs.Cast.{cast, cast_row}
use Rattle.sqlite_tied.specs.Compute.{everything}
use Rattle.sqlite.specs.Given.{IsPlain}
use Rattle.sqlite.specs.Listing.{understood}
use Rattle.sqlite.specs.State.{State, Shown, FailsToQuery, IsTooLate}
use Rattle.sqlite.specs.Values.{or_null}
use Rattle.tb_sql_tables.specs.declared.rows.TaskRow.{TaskRow}
use Rattle.tb_sql_tables.specs.Tables.{task_plain, task_table, task_tree, store_schema}
use Rattle.tb_sql_tables.specs.Rows.{task_row}
use Rattle.tb_sql_tables.specs.Read.{task_of, IsTaskRow}
use Rattle.tb_sql_tables.specs.Content.{HaveIdentifiers, Content, IsContent}
use Rattle.tb_sql_tables.specs.Statements.{Changes, Finds, Ran}
use Rattle.tb_sql_tables.specs.Found.{AreFound, IsOneOf}
use Rattle.tb_sql_tables.proofs.Contents.{tasks_changed}
use Rattle.tb_sql_tables.proofs.Effects.{each, each_of, each_left, cells_updated, cells_shown, found, found_one}
use Rattle.tb_sql_tables.proofs.Inserts.{row_put, cast_integer, cast_null}
use Rattle.tb_sql_tables.proofs.Inside.{shown_open}
use Rattle.tb_sql_tables.proofs.KeyTests.{by_one, by_two, has_one, has_two, one_tested, two_tested, equal_numbers}
use Rattle.tb_sql_tables.proofs.Masks.{cast_mask, mask_read}
use Rattle.tb_sql_tables.proofs.Queries.{query_of, program_of, output_at}
use Rattle.tb_sql_tables.proofs.Statements.{Means, Asks, row_inserted}
use Rattle.uuid.proofs.OrderLemmas.{from_be_bytes-to_be_bytes_16}
use Rattle.tb_sql.specs.Lend.{tasks_text}
use Rattle.tb_sql.specs.Changes.{with_task, with_text, with_mask, is_task, IsTaskBefore}
use Rattle.tb_sql_tables.specs.Failing.{IsExcused}
use Rattle.tb_sql_tables.proofs.Failing.{Suits, fails_so}
use Rattle.tb_sql_tables.proofs.Fitted.{all_read, task_read as task_is_read, still_fit}
use Rattle.sqlite.specs.declared.error.Error.{Error}
use Rattle.tb_sql_tables.specs.Fitting.{FitsTask}

-- ---- a row goes in

abbrev pub insert_text : List ℕ
insert_text = codes "INSERT INTO task (board, place, uuid, body, mask) VALUES (?1, ?2, ?3, ?4, ?5)"

abbrev terms : List Term
terms = lit Null ∷ col 0 0 ∷ col 0 1 ∷ col 0 2 ∷ col 0 3 ∷ col 0 4 ∷ []

inserts : Means insert_text (Insert 4 (Values terms 6))
unfolding understood everything
inserts = record { is = refl; bare = (refl, refl) }

pub insert_task : (old new : State) (row : TaskRow) → FitsTask row → row.uuid < 2 ^ 128 → Ran insert_text (task_row row) old new → Changes (with_task row) old new
insert_task old new row fits low ran = record {
  shown = ran.1.1;
  content = λ content is.
      let cells = task_row row in
      let effect = row_inserted 4 task_plain refl refl insert_text old new is.schema cells ran.0 terms 6 (Null ∷ cells) inserts refl ran.1 in
      tasks_changed content (row ∷ content.tasks) old.now new.now effect.1 is
      (row_put store_schema old.now.trees new.now.trees task_table (Null ∷ cells) cells _ (rw (cast_null, cast_integer (pos row.board), cast_integer (pos row.place), cast_mask row.mask) refl) effect.0 is.rows.tables.tasks) (low, is.rows.tables.task_identifiers) (fits, is.rows.tables.fits.tasks);
}

-- changes that keep identifiers
still_identified : (t : TaskRow → Bool) (set : TaskRow → TaskRow) → ((task : TaskRow) → (set task).uuid ≡ task.uuid) → (tasks : List TaskRow) → HaveIdentifiers tasks → HaveIdentifiers (map (λ task. cond (t task) (set task) task) tasks)
still_identified t set same [] all = tt
still_identified t set same (task ∷ tasks) all = (subst (λ n. n < 2 ^ 128) (sym (kept (t task))) all.0, still_identified t set same tasks all.1)
  where
    kept : (b : Bool) → (cond b (set task) task).uuid ≡ task.uuid
    kept true = same task
    kept false = refl

-- ---- the text and the mask of a task

abbrev pub text_text : List ℕ
text_text = codes "UPDATE task SET body = ?3, mask = ?4 WHERE board = ?1 AND place = ?2"

-- the rowid of the row that goes, and then the row that stands in its place
abbrev update_text_replaced : List Term
update_text_replaced = col 1 0 ∷ col 1 0 ∷ col 1 1 ∷ col 1 2 ∷ col 1 3 ∷ col 0 2 ∷ col 0 3 ∷ []

updates_text : Means text_text (Update 4 (program_of (query_of task_tree by_two update_text_replaced [])))
unfolding understood everything
updates_text = record { is = refl; bare = (refl, refl) }

module _ (board place : ℕ) (body : List ℕ) (mask : Option (List ℕ)) where
  abbrev pub update_text_params : Row
  update_text_params = Int (pos board) ∷ Int (pos place) ∷ Text body ∷ or_null Text mask ∷ []

  abbrev update_text_set : TaskRow → TaskRow
  update_text_set task = record task { body = body; mask = mask }

  abbrev update_text_altered : Row → Row
  update_text_altered cells = cast Integer (column cells 0) ∷ cast Integer (column cells 1) ∷ column cells 2 ∷ Text body ∷ cast TextKind (or_null Text mask) ∷ []

  update_text_altered_is : (row : Row) → drop 1 (cast_row task_table (drop 1 (eval_all update_text_replaced (update_text_params ∷ row ∷ [])))) ≡ update_text_altered (drop 1 row)
  update_text_altered_is [] = refl
  update_text_altered_is (id ∷ cells) = refl

  pub update_text : (old new : State) → IsUtf8 body → IfSome mask IsUtf8 → Ran text_text update_text_params old new → Changes (with_text board place body mask) old new
  update_text old new text_fits mask_fits ran = record {
    shown = ran.1.1;
    content = λ content is.
        let same = each (λ (task : TaskRow). ap₂ ◌&&◌ (equal_numbers task.board board) (equal_numbers task.place place)) content.tasks in
        let effect = cells_updated task_row (is_task board place) content.tasks 4 task_plain refl refl text_text by_two old new is.schema update_text_params ran
        (has_two (Int (pos board)) (Int (pos place))) (two_tested (Int (pos board)) (Int (pos place)) (Text body ∷ or_null Text mask ∷ [])) same is.rows.tables.tasks update_text_replaced update_text_set update_text_altered updates_text
        (λ r. refl) update_text_altered_is (λ task. rw (cast_integer (pos task.board), cast_integer (pos task.place), cast_mask mask) refl) in
        tasks_changed content _ old.now new.now effect.1 is effect.0 (still_identified (is_task board place) update_text_set (λ task. refl) content.tasks is.rows.tables.task_identifiers)
        (still_fit FitsTask (is_task board place) update_text_set (λ task was. record { board = was.board; place = was.place; body = text_fits; mask = mask_fits }) content.tasks is.rows.tables.fits.tasks);
  }

-- ---- the mask of a task

abbrev pub mask_text : List ℕ
mask_text = codes "UPDATE task SET mask = ?3 WHERE board = ?1 AND place = ?2"

-- the rowid of the row that goes, and then the row that stands in its place
abbrev update_mask_replaced : List Term
update_mask_replaced = col 1 0 ∷ col 1 0 ∷ col 1 1 ∷ col 1 2 ∷ col 1 3 ∷ col 1 4 ∷ col 0 2 ∷ []

updates_mask : Means mask_text (Update 4 (program_of (query_of task_tree by_two update_mask_replaced [])))
unfolding understood everything
updates_mask = record { is = refl; bare = (refl, refl) }

module _ (board place : ℕ) (mask : Option (List ℕ)) where
  abbrev pub update_mask_params : Row
  update_mask_params = Int (pos board) ∷ Int (pos place) ∷ or_null Text mask ∷ []

  abbrev update_mask_set : TaskRow → TaskRow
  update_mask_set task = record task { mask = mask }

  abbrev update_mask_altered : Row → Row
  update_mask_altered cells = cast Integer (column cells 0) ∷ cast Integer (column cells 1) ∷ column cells 2 ∷ cast TextKind (column cells 3) ∷ cast TextKind (or_null Text mask) ∷ []

  update_mask_altered_is : (row : Row) → drop 1 (cast_row task_table (drop 1 (eval_all update_mask_replaced (update_mask_params ∷ row ∷ [])))) ≡ update_mask_altered (drop 1 row)
  update_mask_altered_is [] = refl
  update_mask_altered_is (id ∷ cells) = refl

  pub update_mask : (old new : State) → IfSome mask IsUtf8 → Ran mask_text update_mask_params old new → Changes (with_mask board place mask) old new
  update_mask old new fits ran = record {
    shown = ran.1.1;
    content = λ content is.
        let same = each (λ (task : TaskRow). ap₂ ◌&&◌ (equal_numbers task.board board) (equal_numbers task.place place)) content.tasks in
        let effect = cells_updated task_row (is_task board place) content.tasks 4 task_plain refl refl mask_text by_two old new is.schema update_mask_params ran
        (has_two (Int (pos board)) (Int (pos place))) (two_tested (Int (pos board)) (Int (pos place)) (or_null Text mask ∷ [])) same is.rows.tables.tasks update_mask_replaced update_mask_set update_mask_altered updates_mask
        (λ r. refl) update_mask_altered_is (λ task. rw (cast_integer (pos task.board), cast_integer (pos task.place), cast_mask mask) refl) in
        tasks_changed content _ old.now new.now effect.1 is effect.0 (still_identified (is_task board place) update_mask_set (λ task. refl) content.tasks is.rows.tables.task_identifiers)
        (still_fit FitsTask (is_task board place) update_mask_set (λ task was. record { board = was.board; place = was.place; body = was.body; mask = fits }) content.tasks is.rows.tables.fits.tasks);
  }

-- ---- queries

abbrev shown_terms : List Term
shown_terms = col 1 1 ∷ col 1 2 ∷ col 1 3 ∷ col 1 4 ∷ col 1 5 ∷ []

abbrev names : List (List ℕ)
names = codes "board" ∷ codes "place" ∷ codes "uuid" ∷ codes "body" ∷ codes "mask" ∷ []

abbrev columns : Row → Row
columns cells = column cells 0 ∷ column cells 1 ∷ column cells 2 ∷ column cells 3 ∷ column cells 4 ∷ []

-- a task is read back
task_read : (task : TaskRow) → task.uuid < 2 ^ 128 → task_of (columns (task_row task)) ≡ task
task_read task low = λ i.
    let read : TaskRow = record { board = task.board; place = task.place; uuid = from_be_bytes-to_be_bytes_16 task.uuid low i; body = task.body; mask = mask_read task.mask i } in
    read

abbrev in_order : List (Term × Key)
in_order = (col 1 2, ascending Binary) ∷ []

pub tasks_plain : IsPlain (understood store_schema tasks_text)
unfolding understood everything
tasks_plain = (refl, refl)

asks : Asks tasks_text task_tree by_one shown_terms in_order
unfolding understood everything
asks = record { names = names; means = record { is = refl; bare = (refl, refl) }; unlisted = refl }

abbrev out : Row → Output
out cells = (column cells 1 ∷ [], columns cells)

shows : (params row : Row) → output_at task_tree refl by_one shown_terms in_order params row ≡ out (drop 1 row)
shows params [] = refl
shows params (id ∷ cells) = refl

lower : (a b : TaskRow) → IsTaskBefore a b → output_cmp (query_of task_tree by_one shown_terms in_order) (out (task_row a)) (out (task_row b)) ≡ Less
lower a b before = rw value_cmp-Int (grind (arith, ints, nat_tests))

pub select_tasks : (old new : State) (board : ℕ) (rows : List Row) → Shown tasks_text (Int (pos board) ∷ []) old new rows
    → Finds (λ content. AreFound IsTaskBefore (filter (λ row. row.board == board) content.tasks) (map task_of rows)) old
select_tasks old new board rows shown = record {
  was_open = shown_open tasks_text _ old new rows shown;
  found = λ content is.
      let params = Int (pos board) ∷ [] in
      let same = each (λ (row : TaskRow). equal_numbers row.board board) content.tasks in
      let answer = cells_shown task_row (λ row. row.board == board) content.tasks task_tree refl tasks_text by_one shown_terms in_order asks old new params rows is.schema shown
      (has_one (Int (pos board))) out (one_tested (Int (pos board)) []) (shows params) same is.rows.tables.tasks in
      found task_of (query_of task_tree by_one shown_terms in_order) (λ row. out (task_row row)) _ rows (each_of task_read _ (each_left _ _ content.tasks is.rows.tables.task_identifiers)) answer IsTaskBefore lower;
}

pub select_tasks_read : (old new : State) (board : ℕ) (rows : List Row) → Shown tasks_text (Int (pos board) ∷ []) old new rows → (content : Content) → IsContent content old.now → All IsTaskRow rows
select_tasks_read old new board rows shown content is =
    let params = Int (pos board) ∷ [] in
    let same = each (λ (row : TaskRow). equal_numbers row.board board) content.tasks in
    let answer = cells_shown task_row (λ row. row.board == board) content.tasks task_tree refl tasks_text by_one shown_terms in_order asks old new params rows is.schema shown
    (has_one (Int (pos board))) out (one_tested (Int (pos board)) []) (shows params) same is.rows.tables.tasks in
    all_read IsTaskRow _ _ _ rows answer (each_of task_is_read _ (each_left _ (λ row. row.board == board) content.tasks is.rows.tables.fits.tasks))

select_tasks_suits : (board : ℕ) → Suits tasks_text task_tree by_one shown_terms in_order (Int (pos board) ∷ [])
unfolding understood everything
select_tasks_suits board = record { whole = refl; given = refl; typed = refl }

pub select_tasks_excused : (old new : State) (board : ℕ) (e : Error) → FailsToQuery tasks_text (Int (pos board) ∷ []) old new e ⊎ IsTooLate tasks_text (Int (pos board) ∷ []) old new e → IsExcused old new e
select_tasks_excused old new board e failed other ready content is = fails_so tasks_text task_tree by_one shown_terms in_order asks _ (select_tasks_suits board) old new e is.schema ready other failed

abbrev pub find_text : List ℕ
find_text = codes "SELECT board, place, uuid, body, mask FROM task WHERE board = ?1 AND place = ?2"

asks_one : Asks find_text task_tree by_two shown_terms []
unfolding understood everything
asks_one = record { names = names; means = record { is = refl; bare = (refl, refl) }; unlisted = refl }

abbrev out_one : Row → Output
out_one cells = ([], columns cells)

shows_one : (params row : Row) → output_at task_tree refl by_two shown_terms [] params row ≡ out_one (drop 1 row)
shows_one params [] = refl
shows_one params (id ∷ cells) = refl

pub find_task : (old new : State) (board place : ℕ) (rows : List Row) → Shown find_text (Int (pos board) ∷ Int (pos place) ∷ []) old new rows
    → Finds (λ content. IsOneOf (filter (is_task board place) content.tasks) (option_map task_of (slice_get rows 0))) old
find_task old new board place rows shown = record {
  was_open = shown_open find_text _ old new rows shown;
  found = λ content is.
      let params = Int (pos board) ∷ Int (pos place) ∷ [] in
      let same = each (λ (row : TaskRow). ap₂ ◌&&◌ (equal_numbers row.board board) (equal_numbers row.place place)) content.tasks in
      let answer = cells_shown task_row (is_task board place) content.tasks task_tree refl find_text by_two shown_terms [] asks_one old new params rows is.schema shown
      (has_two (Int (pos board)) (Int (pos place))) out_one (two_tested (Int (pos board)) (Int (pos place)) []) (shows_one params) same is.rows.tables.tasks in
      found_one task_of (query_of task_tree by_two shown_terms []) (λ row. out_one (task_row row)) _ rows (each_of task_read _ (each_left _ _ content.tasks is.rows.tables.task_identifiers)) answer;
}

pub find_task_read : (old new : State) (board place : ℕ) (rows : List Row) → Shown find_text (Int (pos board) ∷ Int (pos place) ∷ []) old new rows → (content : Content) → IsContent content old.now → All IsTaskRow rows
find_task_read old new board place rows shown content is =
    let params = Int (pos board) ∷ Int (pos place) ∷ [] in
    let same = each (λ (row : TaskRow). ap₂ ◌&&◌ (equal_numbers row.board board) (equal_numbers row.place place)) content.tasks in
    let answer = cells_shown task_row (is_task board place) content.tasks task_tree refl find_text by_two shown_terms [] asks_one old new params rows is.schema shown
    (has_two (Int (pos board)) (Int (pos place))) out_one (two_tested (Int (pos board)) (Int (pos place)) []) (shows_one params) same is.rows.tables.tasks in
    all_read IsTaskRow _ _ _ rows answer (each_of task_is_read _ (each_left _ (is_task board place) content.tasks is.rows.tables.fits.tasks))

find_task_suits : (board place : ℕ) → Suits find_text task_tree by_two shown_terms [] (Int (pos board) ∷ Int (pos place) ∷ [])
unfolding understood everything
find_task_suits board place = record { whole = refl; given = refl; typed = refl }

pub find_task_excused : (old new : State) (board place : ℕ) (e : Error) → FailsToQuery find_text (Int (pos board) ∷ Int (pos place) ∷ []) old new e ⊎ IsTooLate find_text (Int (pos board) ∷ Int (pos place) ∷ []) old new e → IsExcused old new e
find_task_excused old new board place e failed other ready content is = fails_so find_text task_tree by_two shown_terms [] asks_one _ (find_task_suits board place) old new e is.schema ready other failed
