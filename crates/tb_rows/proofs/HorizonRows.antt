-- How far ahead a board looks before and after changes, in its row.
use Rattle.std.proofs.Common.{◌≡◌, ℕ, ◌==◌, ◌+◌, true, false, cond, List, [], ◌∷◌, ◌++◌, map, flat_map, length, refl, sym, ◌∙◌, ap, inl, inr}
use Rattle.std.specs.List.{AllByRecursion, list_any}
use Rattle.std.proofs.lemmas.Bool.{cases_Bool, eq-eqb, ne_eqb}
use Rattle.sqlite_trees.proofs.ListLemmas.{all_weaker, IsPermutation-same}
use Rattle.tb_board.specs.declared.board.Board.{Board}
use Rattle.tb_board.specs.declared.change.Change.{Change}
use Rattle.tb_board.specs.declared.change.Change.TheVariants.{PutTask, AddPerson as NewPerson, SetKey, AddBoard as NewBoard, SetTitle as NewTitle, SetRole, SetGone, TakeGone, SetAhead}
use Rattle.tb_board.specs.Changing.{with_gone, with_task_at, with_title, without_gone}
use Rattle.tb_board.proofs.Relinking.{or_false}
use Rattle.tb_sql_tables.specs.declared.rows.HorizonRow.{HorizonRow}
use Rattle.tb_sql.specs.declared.changes.RowChange.TheVariants.{AddBoard, AddGone, AddHorizon, SetHorizon}
use Rattle.tb_sql.specs.Changes.{is_horizon}
use Rattle.tb_rows.specs.Rows.{board_gone, board_row, horizon_row, rows_from}
use Rattle.tb_rows.specs.Steps.{ahead_changes, changed_templates, gone_changes, later_board, low_changes, new_task, put_place, sets_ahead, task_changes, title_changes}
use Rattle.tb_rows.proofs.BoardRows.{inert-gone, inert-low, inert-new_tasks, inert-tasks, inert-title, LeavesBoards, LeavesGone, LeavesTasks}
use Rattle.tb_rows.proofs.Evolving.{change_on, replay}
use Rattle.tb_rows.proofs.Places.{IsElsewhere}
use Rattle.tb_rows.proofs.Tables.{horizon_by, turns_added}
use Rattle.tb_rows.proofs.Turning.{first_changed, inert-append, inert-map, inert_next, inert_none, inert_then_turns, Turns, turns_none, turns_then_inert}
use Rattle.tb_rows.proofs.WholeWorlds.{new_board}

abbrev pub IsHorizonElsewhere : ℕ → HorizonRow → Type 0
IsHorizonElsewhere n = IsElsewhere (λ (r : HorizonRow). r.board) n

-- other changes leave it
pub ahead_stays : (n : ℕ) (cs : List Change) (a : Board) → list_any (sets_ahead n) cs ≡ false → (replay n cs a).ahead ≡ a.ahead
ahead_stays n [] a none = refl
ahead_stays n (c ∷ cs) a none =
    let parts = or_false (sets_ahead n c) (list_any (sets_ahead n) cs) none in
    ahead_stays n cs (change_on n c a) parts.1 ∙ one n c a parts.0
  where
    one : (n : ℕ) (c : Change) (a : Board) → sets_ahead n c ≡ false → (change_on n c a).ahead ≡ a.ahead
    one n (PutTask m place t) a none = elim (n == m) as (λ q. (cond q (with_task_at place t a) a).ahead ≡ a.ahead) [ true ↦ refl | false ↦ refl ]
    one n (NewPerson name key) a none = refl
    one n (SetKey name key) a none = refl
    one n (NewBoard m title) a none = refl
    one n (NewTitle m title) a none = elim (n == m) as (λ q. (cond q (with_title title a) a).ahead ≡ a.ahead) [ true ↦ refl | false ↦ refl ]
    one n (SetRole m person role) a none = refl
    one n (SetGone m g) a none = elim (n == m) as (λ q. (cond q (with_gone g a) a).ahead ≡ a.ahead) [ true ↦ refl | false ↦ refl ]
    one n (TakeGone m id k) a none = elim (n == m) as (λ q. (cond q (without_gone id k a) a).ahead ≡ a.ahead) [ true ↦ refl | false ↦ refl ]
    one n (SetAhead m ahead) a none = rw none refl

ahead_set : (a b : Board) (rest : List HorizonRow) → b.number ≡ a.number → AllByRecursion (IsHorizonElsewhere b.number) rest
    → horizon_by (SetHorizon b.number b.ahead) (horizon_row a ∷ rest) ≡ horizon_row b ∷ rest
ahead_set a b rest number apart =
    first_changed (is_horizon b.number) (λ (row : HorizonRow). let changed : HorizonRow = record row { ahead = b.ahead } in changed) (horizon_row a) (horizon_row b) rest
    (eq-eqb a.number b.number (sym number)) (rw number refl) (all_weaker _ _ (λ (r : HorizonRow) off. ne_eqb r.board b.number off) rest apart)

same_row : {n m ahead other : ℕ} → n ≡ m → ahead ≡ other → let first : HorizonRow = record { board = n; ahead = ahead } in let second : HorizonRow = record { board = m; ahead = other } in first ≡ second
same_row numbers aheads = rw (numbers, aheads) refl

ahead_turns : (a b : Board) (cs : List Change) → b.number ≡ a.number → b ≡ replay b.number cs a
    → Turns horizon_by (IsHorizonElsewhere b.number) (ahead_changes b cs) (horizon_row a ∷ []) (horizon_row b ∷ [])
ahead_turns a b cs number made =
    elim (cases_Bool (list_any (sets_ahead b.number) cs)) [
      | inl set ↦ rw set (record { turned = λ rest apart. IsPermutation-same _ _ (ahead_set a b rest number apart) })
      | inr none ↦
          let same : b.ahead ≡ a.ahead = ap (λ (x : Board). x.ahead) made ∙ ahead_stays b.number cs a none in
          let row : horizon_row a ≡ horizon_row b = same_row (sym number) (sym same) in
          rw (none, row) (turns_none horizon_by _ [] (horizon_row b ∷ []) (inert_none horizon_by))
    ]

leaves_boards : LeavesBoards horizon_by
leaves_boards = record { added = λ r rows. refl; title = λ n title rows. refl; low = λ n low rows. refl }

leaves_tasks : LeavesTasks horizon_by
leaves_tasks =
    record { task = λ r rows. refl; text = λ n p body mask rows. refl; mask = λ n p mask rows. refl; link = λ r rows. refl; links = λ n p rows. refl; instance = λ r rows. refl }

leaves_gone : LeavesGone horizon_by
leaves_gone = record { added = λ r rows. refl; removed = λ n t k rows. refl }

pub horizon_later : (a b : Board) (cs : List Change) → b.number ≡ a.number → b ≡ replay b.number cs a
    → Turns horizon_by (IsHorizonElsewhere b.number) (later_board (length a.tasks) b cs) (horizon_row a ∷ []) (horizon_row b ∷ [])
horizon_later a b cs number made =
    let old = length a.tasks in
    let put = flat_map (put_place b.number) cs in
    let templates = changed_templates b old put cs in
    inert_then_turns horizon_by _ (title_changes b cs) _ (horizon_row a ∷ []) (horizon_row b ∷ []) (inert-title horizon_by leaves_boards b cs)
    (inert_then_turns horizon_by _ (low_changes old b) _ (horizon_row a ∷ []) (horizon_row b ∷ []) (inert-low horizon_by leaves_boards old b)
    (turns_then_inert horizon_by _ (ahead_changes b cs) (rows_from (task_changes b old put templates) 0 b.tasks ++ flat_map (gone_changes b) cs) (horizon_row a ∷ []) (horizon_row b ∷ []) (ahead_turns a b cs number made)
    (inert-append horizon_by (rows_from (task_changes b old put templates) 0 b.tasks) (flat_map (gone_changes b) cs) (inert-tasks horizon_by leaves_tasks b old put templates) (inert-gone horizon_by leaves_gone b cs))))

pub horizon_new : (b : Board) → Turns horizon_by (IsHorizonElsewhere b.number) (new_board b) [] (horizon_row b ∷ [])
horizon_new b =
    inert_then_turns horizon_by _ (AddBoard (board_row b) ∷ []) _ [] (horizon_row b ∷ []) (inert_next horizon_by (AddBoard (board_row b)) [] (λ rows. refl) (inert_none horizon_by))
    (turns_then_inert horizon_by _ (AddHorizon (horizon_row b) ∷ []) (rows_from (λ i t. new_task b (i + 1) t) 0 b.tasks ++ map AddGone (board_gone b)) [] (horizon_row b ∷ [])
    (turns_added horizon_by _ AddHorizon (λ r rows. refl) (horizon_row b ∷ []))
    (inert-append horizon_by (rows_from (λ i t. new_task b (i + 1) t) 0 b.tasks) (map AddGone (board_gone b)) (inert-new_tasks horizon_by leaves_tasks b) (inert-map horizon_by AddGone (λ r rows. refl) (board_gone b))))
