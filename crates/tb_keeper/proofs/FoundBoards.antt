-- The rows of boards that are found stand for the boards of the world, whatever the lows, masks, links and instances.
use Rattle.std.proofs.Common.{◌≡◌, ◌+◌, List, [], ◌∷◌, ◌++◌, Option, Some, Result, Ok, filter, length, map, refl, sym, ap, ◌∙◌, subst, IsPermutation}
use Rattle.std.specs.List.{AllByRecursion}
use Rattle.std.proofs.lemmas.List.Sorted.{IsPermutation-sym}
use Rattle.sqlite_trees.specs.Tree.{IsAscending}
use Rattle.sqlite_keyed.proofs.ListLemmas.{ascending-map, ascending_from_map, filter-map, IsPermutation-filter}
use Rattle.tb_values.specs.Outcome.{◌>>=◌}
use Rattle.tb_task.specs.TaskId.{IsRead}
use Rattle.tb_task.specs.declared.task.Task.{Task}
use Rattle.tb_board.specs.Good.{IsGood}
use Rattle.tb_board.specs.declared.board.Board.{Board}
use Rattle.tb_board.specs.declared.world.World.{World}
use Rattle.tb_core.specs.GoodWorld.{IsGoodWorld}
use Rattle.tb_sql_tables.specs.Content.{Content}
use Rattle.tb_sql_tables.specs.Found.{AreFound}
use Rattle.tb_sql_tables.specs.declared.rows.BoardRow.{BoardRow}
use Rattle.tb_sql_tables.specs.declared.rows.TaskRow.{TaskRow}
use Rattle.tb_sql_tables.specs.declared.rows.GoneRow.{GoneRow}
use Rattle.tb_sql_tables.specs.declared.rows.HorizonRow.{HorizonRow}
use Rattle.tb_sql.specs.Changes.{is_board, IsBoardBefore, IsGoneBefore, IsTaskBefore}
use Rattle.tb_rows.specs.Rows.{world_rows, board_row, board_tasks, board_gone, horizon_row}
use Rattle.tb_rows.specs.Forms.{HasForm, HasBoardForm}
use Rattle.tb_rows.specs.Outcome.{readable}
use Rattle.tb_rows.specs.Reading.{ahead_of, board_of, gone_in, is_gone_on, is_task_on, task_at, tasks_in}
use Rattle.tb_rows.specs.declared.fault.ReopenFault.{ReopenFault}
use Rattle.tb_board.specs.Names.{read_title}
use Rattle.tb_rows.proofs.Joined.{numbered_from}
use Rattle.tb_rows.proofs.Orders.{GoneRise, in_order}
use Rattle.tb_rows.proofs.ReadBoards.{FindsOwn, board_read, finds_own}
use Rattle.tb_rows.proofs.Rising.{boards_rise, tasks_rise}
use Rattle.tb_keeper.specs.Auditing.{without_low, without_mask, HasBoardsOf, HasHorizonOrNone, StandFor, StandsFor}
use Rattle.tb_keeper.proofs.Images.{all_alone, images_found, IsAlone}

-- ---- a board is read without its low and the masks

unmasked : (found : List Task) (rows : List TaskRow) → tasks_in found (map without_mask rows) ≡ tasks_in found rows
unmasked found [] = refl
unmasked found (row ∷ rows) = λ i. task_at (length found + 1) row >>= λ t. unmasked (found ++ t ∷ []) rows i

abbrev read_with : BoardRow → Option HorizonRow → List GoneRow → Result (List Task) ReopenFault → Result Board ReopenFault
read_with row horizon gone_rows read = do
  title ← readable (read_title row.title)
  ahead ← ahead_of horizon
  tasks ← read
  gone ← gone_in tasks [] gone_rows
  Ok (record { number = row.id; title = title; tasks = tasks; gone = gone; ahead = ahead })

same_board : (row other : BoardRow) (horizon : Option HorizonRow) (rows others : List TaskRow) (gone : List GoneRow) → without_low row ≡ without_low other → map without_mask rows ≡ map without_mask others
    → board_of row horizon rows gone ≡ board_of other horizon others gone
same_board row other horizon rows others gone same_row same_tasks =
    ap (λ (r : BoardRow). board_of r horizon rows gone) same_row
    ∙ ap (read_with other horizon gone) (sym (unmasked [] rows) ∙ ap (tasks_in []) same_tasks ∙ unmasked [] others)

-- ---- what is found on the number of a board

module _ (law : IsRead) (w : World) (c : Content) (has : HasBoardsOf w c) where
  tasks_found : (b : Board) → FindsOwn (world_rows w).horizon (world_rows w).tasks (world_rows w).gone b → (tasks : List TaskRow) → AreFound IsTaskBefore (filter (is_task_on b.number) c.tasks) tasks
      → map without_mask tasks ≡ map without_mask (board_tasks b)
  tasks_found b own tasks are =
      let all : IsPermutation (filter (is_task_on b.number) (map without_mask c.tasks)) (filter (is_task_on b.number) (map without_mask (world_rows w).tasks)) =
      IsPermutation-filter (is_task_on b.number) _ _ has.tasks in
      let there : filter (is_task_on b.number) (map without_mask c.tasks) ≡ map without_mask (filter (is_task_on b.number) c.tasks) = filter-map (is_task_on b.number) without_mask c.tasks in
      let here : filter (is_task_on b.number) (map without_mask (world_rows w).tasks) ≡ map without_mask (board_tasks b) =
      filter-map (is_task_on b.number) without_mask (world_rows w).tasks ∙ ap (map without_mask) own.tasks_are in
      images_found without_mask IsTaskBefore (filter (is_task_on b.number) c.tasks) tasks (board_tasks b) (subst (λ l. IsPermutation l (map without_mask (board_tasks b))) there (subst (IsPermutation _) here all)) (tasks_rise b) are

  gone_found : (b : Board) → FindsOwn (world_rows w).horizon (world_rows w).tasks (world_rows w).gone b → GoneRise b → (gone : List GoneRow) → AreFound IsGoneBefore (filter (is_gone_on b.number) c.gone) gone → gone ≡ board_gone b
  gone_found b own rise gone are =
      are.in_order (board_gone b) (subst (λ l. IsPermutation l (filter (is_gone_on b.number) c.gone)) own.gone_are (IsPermutation-filter (is_gone_on b.number) _ _ (IsPermutation-sym _ _ has.gone))) rise

  stands : (rows : List BoardRow) → IsPermutation c.boards rows → (row : BoardRow) (b : Board) → without_low row ≡ without_low (board_row b) → IsAlone (λ (r : BoardRow). r.id) rows row
      → FindsOwn (world_rows w).horizon (world_rows w).tasks (world_rows w).gone b → IsGood b → HasBoardForm b → GoneRise b → HasHorizonOrNone c b → StandsFor c row b
  stands rows all row b same alone own good form rise looks =
      let number : row.id ≡ b.number = ap (λ (r : BoardRow). r.id) same in
      record {
        number = number;
        own = subst (λ n. IsPermutation (filter (is_board n) c.boards) (row ∷ [])) number (subst (IsPermutation _) alone (IsPermutation-filter (is_board row.id) _ _ all));
        horizon = looks;
        tasks = tasks_found b own;
        read = λ tasks gone of_tasks of_gone.
            ap (board_of row (Some (horizon_row b)) tasks) (gone_found b own rise gone of_gone)
            ∙ same_board row (board_row b) (Some (horizon_row b)) tasks (board_tasks b) (board_gone b) same (tasks_found b own tasks of_tasks) ∙ board_read law b good form;
      }

  all_stand : (rows : List BoardRow) → IsPermutation c.boards rows → (left : List BoardRow) (bs : List Board) → map without_low left ≡ map without_low (map board_row bs)
      → AllByRecursion (IsAlone (λ (r : BoardRow). r.id) rows) left → AllByRecursion (FindsOwn (world_rows w).horizon (world_rows w).tasks (world_rows w).gone) bs → AllByRecursion IsGood bs → AllByRecursion HasBoardForm bs → AllByRecursion GoneRise bs
      → AllByRecursion (HasHorizonOrNone c) bs → StandFor c left bs
  all_stand rows all [] [] same alone own good forms rise look = tt
  all_stand rows all [] (b ∷ bs) same alone own good forms rise look = absurd (cc)
  all_stand rows all (row ∷ left) [] same alone own good forms rise look = absurd (cc)
  all_stand rows all (row ∷ left) (b ∷ bs) same alone own good forms rise look =
      let first : without_low row ≡ without_low (board_row b) = cc in
      let rest : map without_low left ≡ map without_low (map board_row bs) = cc in
      (stands rows all row b first alone.0 own.0 good.0 forms.0 rise.0 look.0, all_stand rows all left bs rest alone.1 own.1 good.1 forms.1 rise.1 look.1)

  pub boards_stand : IsGoodWorld w → HasForm w → (rows : List BoardRow) → AreFound IsBoardBefore c.boards rows → StandFor c rows w.boards
  boards_stand good form rows are =
      let numbered = numbered_from 1 w.boards good.numbered in
      let rise = boards_rise 1 w.boards numbered in
      let same : map without_low rows ≡ map without_low (map board_row w.boards) = images_found without_low IsBoardBefore c.boards rows (map board_row w.boards) has.boards rise are in
      all_stand rows are.same rows w.boards same (all_alone (λ (r : BoardRow). r.id) rows (rows_rise rows (map board_row w.boards) same rise)) (finds_own 1 w.boards numbered) good.good form.boards (in_order w good).gone has.horizon
    where
      rows_rise : (rows own : List BoardRow) → map without_low rows ≡ map without_low own → IsAscending IsBoardBefore own → IsAscending IsBoardBefore rows
      rows_rise rows own same up =
          ascending_from_map IsBoardBefore without_low rows
          (subst (IsAscending IsBoardBefore) (sym same) (ascending-map IsBoardBefore without_low own up))
