-- Trees that are the rows of two contents: these have the same rows in any order.
use Rattle.std.proofs.Common.{◌≡◌, ◌<◌, ◌^◌, ℕ, pos, List, [], ◌∷◌, map, Option, Some, None, refl, ap₂, subst, IsPermutation}
use Rattle.std.specs.List.{AllByRecursion}
use Rattle.std.proofs.lemmas.List.Sorted.{IsPermutation-map, IsPermutation-sym, IsPermutation-trans}
use Rattle.uuid.proofs.OrderLemmas.{from_be_bytes-to_be_bytes_16}
use Rattle.sqlite.specs.Values.{or_null}
use Rattle.sqlite_value.specs.declared.value.Value.TheVariants.{Int, Text as Words}
use Rattle.sqlite_value.specs.declared.value.Value.{Value}
use Rattle.sqlite_value.specs.Order.{Row, column}
use Rattle.sqlite_trees.specs.Tree.{Trees}
use Rattle.tb_rows.specs.Rows.{HaveSameRows, IsSameContent}
use Rattle.tb_sql_tables.specs.declared.rows.PersonRow.{PersonRow}
use Rattle.tb_sql_tables.specs.declared.rows.BoardRow.{BoardRow}
use Rattle.tb_sql_tables.specs.declared.rows.TaskRow.{TaskRow}
use Rattle.tb_sql_tables.specs.declared.rows.KeptRow.{KeptRow}
use Rattle.tb_sql_tables.specs.declared.rows.HorizonRow.{HorizonRow}
use Rattle.tb_sql_tables.specs.declared.rows.HistoryRow.{HistoryRow}
use Rattle.tb_sql_tables.specs.Content.{AreRows, Content, HasKeyed, HasRows}
use Rattle.tb_sql_tables.specs.Read.{identifier_of, number_of, words_of, mask_of, role_of, task_of, link_of, instance_of, gone_of, kept_of}
use Rattle.tb_sql_tables.specs.Rows.{person_row, board_row, role_row, task_row, link_row, instance_row, gone_row, kept_row, horizon_row, history_row}
use Rattle.tb_sql_tables.proofs.Effects.{each, each_of}

abbrev person_from : Row → PersonRow
person_from cells = record { id = number_of (column cells 0); name = words_of (column cells 2); secret = words_of (column cells 3) }

abbrev board_from : Row → BoardRow
board_from cells = record { id = number_of (column cells 0); title = words_of (column cells 2); low = number_of (column cells 3) }

abbrev horizon_from : Row → HorizonRow
horizon_from cells = record { board = number_of (column cells 0); ahead = number_of (column cells 2) }

mask_back : (mask : Option (List ℕ)) → mask_of (or_null Words mask) ≡ mask
mask_back None = refl
mask_back (Some text) = refl

task_back : (task : TaskRow) → task.uuid < 2 ^ 128 → task_of (task_row task) ≡ task
task_back task low = λ i.
    let read : TaskRow = record { board = task.board; place = task.place; uuid = from_be_bytes-to_be_bytes_16 task.uuid low i; body = task.body; mask = mask_back task.mask i } in
    read

kept_back : (kept : KeptRow) → kept.id < 2 ^ 128 → kept_of (kept_row kept) ≡ kept
kept_back kept low = λ i.
    let read : KeptRow = record { person = kept.person; id = from_be_bytes-to_be_bytes_16 kept.id low i; content = kept.content; number = kept.number; status = kept.status; body = kept.body } in
    read

abbrev place_of : Value → Option ℕ
place_of (Int (pos place)) = Some place
place_of _ = None

place_back : (place : Option ℕ) → place_of (or_null (λ n. Int (pos n)) place) ≡ place
place_back None = refl
place_back (Some place) = refl

abbrev history_of : Row → HistoryRow
history_of cells = record {
  board = number_of (column cells 0);
  number = number_of (column cells 1);
  moment = number_of (column cells 2);
  person = number_of (column cells 3);
  call = identifier_of (column cells 4);
  what = number_of (column cells 5);
  task = place_of (column cells 6);
}

history_back : (row : HistoryRow) → row.call < 2 ^ 128 → history_of (history_row row) ≡ row
history_back row low = λ i.
    let read : HistoryRow =
    record { board = row.board; number = row.number; moment = row.moment; person = row.person; call = from_be_bytes-to_be_bytes_16 row.call low i; what = row.what; task = place_back row.task i } in
    read

module _ {X : Type 0} (row_of : X → Row) (read : Row → X) where
  -- the row reads as what it is of
  abbrev IsReadBack : X → Type 0
  IsReadBack x = read (row_of x) ≡ x

  all_back : (xs : List X) → AllByRecursion IsReadBack xs → map read (map row_of xs) ≡ xs
  all_back [] h = refl
  all_back (x ∷ xs) h = ap₂ ◌∷◌ h.0 (all_back xs h.1)

  same_images : (xs ys : List X) → AllByRecursion IsReadBack xs → AllByRecursion IsReadBack ys → IsPermutation (map row_of xs) (map row_of ys) → IsPermutation xs ys
  same_images xs ys reads_xs reads_ys same =
      subst (λ l. IsPermutation l ys) (all_back xs reads_xs) (subst (IsPermutation _) (all_back ys reads_ys) (IsPermutation-map read _ _ same))

  same_cells : (xs ys : List X) (stored : List Row) → AllByRecursion IsReadBack xs → AllByRecursion IsReadBack ys → HasRows (map row_of xs) stored → HasRows (map row_of ys) stored → IsPermutation xs ys
  same_cells xs ys stored reads_xs reads_ys a b = same_images xs ys reads_xs reads_ys (IsPermutation-trans _ _ _ a.same (IsPermutation-sym _ _ b.same))

  same_keyed : (xs ys : List X) (stored : List Row) → AllByRecursion IsReadBack xs → AllByRecursion IsReadBack ys → HasKeyed (map row_of xs) stored → HasKeyed (map row_of ys) stored → IsPermutation xs ys
  same_keyed xs ys stored reads_xs reads_ys a b = same_images xs ys reads_xs reads_ys (IsPermutation-trans _ _ _ a.same (IsPermutation-sym _ _ b.same))

pub same_contents : (a b : Content) (db : Trees) → AreRows a db → AreRows b db → IsSameContent a b
same_contents a b db is_a is_b =
    let of_a = is_a.tables in
    let of_b = is_b.tables in
    let tables : HaveSameRows a b = record {
      people = same_keyed person_row person_from _ _ _ (each (λ row. refl) _) (each (λ row. refl) _) of_a.people of_b.people;
      boards = same_keyed board_row board_from _ _ _ (each (λ row. refl) _) (each (λ row. refl) _) of_a.boards of_b.boards;
      roles = same_cells role_row role_of _ _ _ (each (λ row. refl) _) (each (λ row. refl) _) of_a.roles of_b.roles;
      tasks = same_cells task_row task_of _ _ _ (each_of task_back _ of_a.task_identifiers) (each_of task_back _ of_b.task_identifiers) of_a.tasks of_b.tasks;
      links = same_cells link_row link_of _ _ _ (each (λ row. refl) _) (each (λ row. refl) _) of_a.links of_b.links;
      instances = same_cells instance_row instance_of _ _ _ (each (λ row. refl) _) (each (λ row. refl) _) of_a.instances of_b.instances;
      gone = same_cells gone_row gone_of _ _ _ (each (λ row. refl) _) (each (λ row. refl) _) of_a.gone of_b.gone;
      horizon = same_keyed horizon_row horizon_from _ _ _ (each (λ row. refl) _) (each (λ row. refl) _) of_a.horizon of_b.horizon;
    } in
    record {
      tables = tables;
      kept = same_cells kept_row kept_of _ _ _ (each_of kept_back _ of_a.kept_identifiers) (each_of kept_back _ of_b.kept_identifiers) of_a.kept of_b.kept;
      history = same_cells history_row history_of _ _ _ (each_of history_back _ of_a.history_identifiers) (each_of history_back _ of_b.history_identifiers) of_a.history of_b.history;
    }
