-- Boards are read back from their rows.
use Rattle.std.proofs.Common.{◌≡◌, ℕ, ◌+◌, List, [], ◌∷◌, ◌++◌, Ok, Some, filter, map, refl, sym, ap, ◌∙◌, subst, append_assoc}
use Rattle.std.specs.List.{AllByRecursion, flat_map}
use Rattle.std.proofs.lemmas.List.{append-nil}
use Rattle.tb_task.specs.TaskId.{IsRead}
use Rattle.tb_task.specs.declared.task.Task.{Task}
use Rattle.tb_board.specs.Good.{IsGood}
use Rattle.tb_board.specs.declared.board.Board.{Board}
use Rattle.tb_board.specs.declared.gone.Gone.{Gone}
use Rattle.tb_sql_tables.specs.declared.rows.TaskRow.{TaskRow}
use Rattle.tb_sql_tables.specs.declared.rows.GoneRow.{GoneRow}
use Rattle.tb_sql_tables.specs.declared.rows.HorizonRow.{HorizonRow}
use Rattle.tb_sql.specs.Changes.{is_horizon}
use Rattle.tb_rows.specs.Rows.{rows_from, board_row, horizon_row, task_row, gone_row, board_tasks, board_gone}
use Rattle.tb_rows.specs.Forms.{HasBoardForm}
use Rattle.tb_rows.specs.Reading.{board_of, boards_in, is_task_on, is_gone_on}
use Rattle.tb_rows.proofs.Joined.{AreNumberedFrom, own_rows}
use Rattle.tb_rows.proofs.ReadGone.{gone_read}
use Rattle.tb_rows.proofs.ReadTasks.{all-storable, tasks_read}

pub board_read : IsRead → (b : Board) → IsGood b → HasBoardForm b → board_of (board_row b) (Some (horizon_row b)) (board_tasks b) (board_gone b) ≡ Ok b
board_read law b good form =
    let storable = all-storable b.tasks form.tasks good.sound in
    rw (form.title, form.ahead, tasks_read law b [] b.tasks 1 refl storable, gone_read b [] b.gone good.gone form.gone) refl

-- the rows on a board's number are those of the board
pub record FindsOwn (horizons : List HorizonRow) (tasks : List TaskRow) (gone : List GoneRow) (b : Board) : Type 0 where
  pub horizon_is : filter (is_horizon b.number) horizons ≡ horizon_row b ∷ []
  pub tasks_are : filter (is_task_on b.number) tasks ≡ board_tasks b
  pub gone_are : filter (is_gone_on b.number) gone ≡ board_gone b

pub boards_read : IsRead → (horizons : List HorizonRow) (tasks : List TaskRow) (gone : List GoneRow) (found bs : List Board) → AllByRecursion (FindsOwn horizons tasks gone) bs
    → AllByRecursion IsGood bs → AllByRecursion HasBoardForm bs → boards_in horizons tasks gone found (map board_row bs) ≡ Ok (found ++ bs)
boards_read law horizons tasks gone found [] own good forms = ap Ok (sym (append-nil found))
boards_read law horizons tasks gone found (b ∷ bs) own good forms =
    rw (own.0.horizon_is, own.0.tasks_are, own.0.gone_are, board_read law b good.0 forms.0)
    (boards_read law horizons tasks gone (found ++ b ∷ []) bs own.1 good.1 forms.1 ∙ ap Ok (append_assoc found (b ∷ []) bs))

-- ---- the rows of a board bear its number

tasks_on : (b : Board) (n : ℕ) (ts : List Task) → AllByRecursion (λ (row : TaskRow). row.board ≡ b.number) (rows_from (λ place t. task_row b place t ∷ []) n ts)
tasks_on b n [] = tt
tasks_on b n (t ∷ ts) = (refl, tasks_on b (n + 1) ts)

gone_on : (b : Board) (gs : List Gone) → AllByRecursion (λ (row : GoneRow). row.board ≡ b.number) (map (gone_row b) gs)
gone_on b [] = tt
gone_on b (g ∷ gs) = (refl, gone_on b gs)

pub own_tasks : (b : Board) → AllByRecursion (λ (row : TaskRow). row.board ≡ b.number) (board_tasks b)
own_tasks b = tasks_on b 1 b.tasks

pub own_gone : (b : Board) → AllByRecursion (λ (row : GoneRow). row.board ≡ b.number) (board_gone b)
own_gone b = gone_on b b.gone

together : (horizons : List HorizonRow) (tasks : List TaskRow) (gone : List GoneRow) (bs : List Board) → AllByRecursion (λ (b : Board). filter (is_horizon b.number) horizons ≡ horizon_row b ∷ []) bs
    → AllByRecursion (λ (b : Board). filter (is_task_on b.number) tasks ≡ board_tasks b) bs → AllByRecursion (λ (b : Board). filter (is_gone_on b.number) gone ≡ board_gone b) bs
    → AllByRecursion (FindsOwn horizons tasks gone) bs
together horizons tasks gone [] h t g = tt
together horizons tasks gone (b ∷ bs) h t g = (record { horizon_is = h.0; tasks_are = t.0; gone_are = g.0 }, together horizons tasks gone bs h.1 t.1 g.1)

one_each : (bs : List Board) → flat_map (λ b. horizon_row b ∷ []) bs ≡ map horizon_row bs
one_each [] = refl
one_each (b ∷ bs) = ap (λ l. horizon_row b ∷ l) (one_each bs)

pub own_horizon : (n : ℕ) (bs : List Board) → AreNumberedFrom n bs → AllByRecursion (λ (b : Board). filter (is_horizon b.number) (map horizon_row bs) ≡ horizon_row b ∷ []) bs
own_horizon n bs numbered =
    subst (λ l. AllByRecursion (λ (b : Board). filter (is_horizon b.number) l ≡ horizon_row b ∷ []) bs) (one_each bs)
    (own_rows (λ (row : HorizonRow). row.board) (λ b. horizon_row b ∷ []) (λ b. (refl, tt)) n bs numbered)

pub finds_own : (n : ℕ) (bs : List Board) → AreNumberedFrom n bs → AllByRecursion (FindsOwn (map horizon_row bs) (flat_map board_tasks bs) (flat_map board_gone bs)) bs
finds_own n bs numbered =
    together _ _ _ bs (own_horizon n bs numbered) (own_rows (λ (row : TaskRow). row.board) board_tasks own_tasks n bs numbered) (own_rows (λ (row : GoneRow). row.board) board_gone own_gone n bs numbered)
