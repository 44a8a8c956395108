-- The rows of a board before and after changes, table by table.
use Rattle.std.proofs.Common.{◌≡◌, ℕ, zero, suc, ◌+◌, ◌<◌, ◌≤◌, ◌==◌, true, false, cond, List, [], ◌∷◌, ◌++◌, Option, Some, None, map, flat_map, length, nat_lt, refl, sym, ◌∙◌, ap, arith, inl, inr}
use Rattle.std.specs.List.{AllByRecursion, list_any}
use Rattle.std.proofs.lemmas.Bool.{cases_Bool, eq-eqb, ne_eqb, ltb-false}
use Rattle.std.proofs.lemmas.List.{append-nil, length-append, nil_from_length}
use Rattle.sqlite_trees.proofs.ListLemmas.{all_weaker, all_of, all-map, IsPermutation-same}
use Rattle.tb_task.specs.declared.task.Task.{Task}
use Rattle.tb_task.specs.TaskId.{made}
use Rattle.tb_board.specs.declared.board.Board.{Board}
use Rattle.tb_board.specs.declared.change.Change.{Change}
use Rattle.tb_board.specs.declared.change.Change.TheVariants.{PutTask, AddPerson as NewPerson, SetKey, AddBoard as NewBoard, SetTitle as NewTitle, SetRole, SetGone, TakeGone, SetAhead}
use Rattle.tb_board.specs.declared.gone.Gone.{Gone}
use Rattle.tb_board.specs.Changing.{with_ahead, with_gone, with_task_at, without_gone}
use Rattle.tb_board.specs.Tasks.{ids, place_in}
use Rattle.tb_board.specs.Numbers.{first_free, free}
use Rattle.tb_board.proofs.Goodness.{on-same}
use Rattle.tb_board.proofs.Relinking.{or_false}
use Rattle.tb_sql_tables.specs.declared.rows.BoardRow.{BoardRow}
use Rattle.tb_sql_tables.specs.declared.rows.TaskRow.{TaskRow}
use Rattle.tb_sql_tables.specs.declared.rows.LinkRow.{LinkRow}
use Rattle.tb_sql_tables.specs.declared.rows.InstanceRow.{InstanceRow}
use Rattle.tb_sql_tables.specs.declared.rows.GoneRow.{GoneRow}
use Rattle.tb_sql_tables.specs.declared.rows.HorizonRow.{HorizonRow}
use Rattle.tb_sql.specs.declared.changes.RowChange.{RowChange}
use Rattle.tb_sql.specs.declared.changes.RowChange.TheVariants.{AddBoard, SetTitle, SetLow, AddTask, SetText, SetMask, AddLink, RemoveLinks, AddInstance, AddGone, RemoveGone, AddHorizon, SetHorizon}
use Rattle.tb_sql.specs.Changes.{is_board}
use Rattle.tb_board.specs.Extends.{ExtendsBoard, ExtendsTask, IsFrontOf}
use Rattle.tb_rows.specs.Rows.{board_row, board_gone, horizon_row, board_instances, board_links, board_tasks, gone_row, instance_rows, instance_rows_of, link_row, link_rows, rows_from, task_row}
use Rattle.tb_rows.specs.Steps.{ahead_changes, gone_added, gone_changes, gone_removed, is_among, is_of_board, kept_board, later_board, low_changes, new_mask, new_task, put_task, sets_ahead, sets_title, task_changes, title_changes, put_place, changed_templates}
use Rattle.tb_rows.proofs.WholeWorlds.{board_changes, new_board}
use Rattle.tb_rows.proofs.Evolving.{change_on, replay}
use Rattle.tb_rows.proofs.GoneRows.{IsGoneElsewhere}
use Rattle.tb_rows.proofs.Places.{AreAt, IsBefore, IsElsewhere, Matches, turns_places}
use Rattle.tb_rows.proofs.Staying.{ids-length, ids_front}
use Rattle.tb_rows.proofs.TaskRows.{instance_kept, instance_new, IsKept, link_kept, link_new, new_there, task_kept, task_new}
use Rattle.tb_rows.proofs.Tables.{board_by, boards_unordered, gone_by, instance_by, instances_unordered, link_by, links_unordered, task_by, tasks_unordered, turns_added}
use Rattle.tb_rows.proofs.Turning.{first_changed, inert-append, inert-flat_map, inert-if, inert-map, inert-rows_from, inert_next, inert_none, inert_then_turns, IsInert, Turns, turns_narrow, turns_none, turns_then_inert, turns_twice}

-- ---- tables that changes of tasks leave

-- changes of tasks, links and instances leave the table
pub record LeavesTasks {R : Type 0} (by : RowChange → List R → List R) : Type 0 where
  pub task : (r : TaskRow) (rows : List R) → by (AddTask r) rows ≡ rows
  pub text : (n p : ℕ) (body : List ℕ) (mask : Option (List ℕ)) (rows : List R) → by (SetText n p body mask) rows ≡ rows
  pub mask : (n p : ℕ) (mask : Option (List ℕ)) (rows : List R) → by (SetMask n p mask) rows ≡ rows
  pub link : (r : LinkRow) (rows : List R) → by (AddLink r) rows ≡ rows
  pub links : (n p : ℕ) (rows : List R) → by (RemoveLinks n p) rows ≡ rows
  pub instance : (r : InstanceRow) (rows : List R) → by (AddInstance r) rows ≡ rows

-- changes of gone places leave the table
pub record LeavesGone {R : Type 0} (by : RowChange → List R → List R) : Type 0 where
  pub added : (r : GoneRow) (rows : List R) → by (AddGone r) rows ≡ rows
  pub removed : (n t k : ℕ) (rows : List R) → by (RemoveGone n t k) rows ≡ rows

-- changes of the rows of boards leave the table
pub record LeavesBoards {R : Type 0} (by : RowChange → List R → List R) : Type 0 where
  pub added : (r : BoardRow) (rows : List R) → by (AddBoard r) rows ≡ rows
  pub title : (n : ℕ) (title : List ℕ) (rows : List R) → by (SetTitle n title) rows ≡ rows
  pub low : (n low : ℕ) (rows : List R) → by (SetLow n low) rows ≡ rows

-- changes of how far ahead boards look leave the table
pub record LeavesHorizon {R : Type 0} (by : RowChange → List R → List R) : Type 0 where
  pub added : (r : HorizonRow) (rows : List R) → by (AddHorizon r) rows ≡ rows
  pub set : (n ahead : ℕ) (rows : List R) → by (SetHorizon n ahead) rows ≡ rows

pub inert-new_task : {R : Type 0} (by : RowChange → List R → List R) → LeavesTasks by → (b : Board) (p : ℕ) (t : Task) → IsInert by (new_task b p t)
inert-new_task by leaves b p t =
    inert_next by (AddTask (task_row b p t)) _ (leaves.task (task_row b p t))
    (inert-append by (map AddLink (link_rows b p t)) (map AddInstance (instance_rows b p t)) (inert-map by AddLink leaves.link (link_rows b p t)) (inert-map by AddInstance leaves.instance (instance_rows b p t)))

inert-task_changes : {R : Type 0} (by : RowChange → List R → List R) → LeavesTasks by → (b : Board) (old : ℕ) (put templates : List ℕ) (i : ℕ) (t : Task)
    → IsInert by (task_changes b old put templates i t)
inert-task_changes by leaves b old put templates i t =
    inert-if by (nat_lt i old) _ (new_task b (i + 1) t)
    (inert-if by (is_among put i) (put_task b (i + 1) t) _
    (inert_next by _ _ (leaves.text _ _ _ _) (inert_next by _ _ (leaves.links _ _) (inert-map by AddLink leaves.link (link_rows b (i + 1) t))))
    (inert-if by (is_among templates i) (new_mask b (i + 1) t) [] (inert_next by _ [] (leaves.mask _ _ _) (inert_none by)) (inert_none by)))
    (inert-new_task by leaves b (i + 1) t)

pub inert-tasks : {R : Type 0} (by : RowChange → List R → List R) → LeavesTasks by → (b : Board) (old : ℕ) (put templates : List ℕ) → IsInert by (rows_from (task_changes b old put templates) 0 b.tasks)
inert-tasks by leaves b old put templates = inert-rows_from by (task_changes b old put templates) (inert-task_changes by leaves b old put templates) 0 b.tasks

pub inert-new_tasks : {R : Type 0} (by : RowChange → List R → List R) → LeavesTasks by → (b : Board) → IsInert by (rows_from (λ i t. new_task b (i + 1) t) 0 b.tasks)
inert-new_tasks by leaves b = inert-rows_from by (λ i t. new_task b (i + 1) t) (λ i t. inert-new_task by leaves b (i + 1) t) 0 b.tasks

inert-gone_added : {R : Type 0} (by : RowChange → List R → List R) → LeavesGone by → (b : Board) (g : Gone) (o : Option ℕ) → IsInert by (gone_added b g o)
inert-gone_added by leaves b g None = inert_none by
inert-gone_added by leaves b g (Some p) = inert_next by _ [] (leaves.added (gone_row b g)) (inert_none by)

inert-gone_removed : {R : Type 0} (by : RowChange → List R → List R) → LeavesGone by → (b : Board) (k : ℕ) (o : Option ℕ) → IsInert by (gone_removed b k o)
inert-gone_removed by leaves b k None = inert_none by
inert-gone_removed by leaves b k (Some p) = inert_next by _ [] (leaves.removed b.number (p + 1) k) (inert_none by)

inert-gone_changes : {R : Type 0} (by : RowChange → List R → List R) → LeavesGone by → (b : Board) (c : Change) → IsInert by (gone_changes b c)
inert-gone_changes by leaves b (PutTask m place t) = inert_none by
inert-gone_changes by leaves b (NewPerson name key) = inert_none by
inert-gone_changes by leaves b (SetKey name key) = inert_none by
inert-gone_changes by leaves b (NewBoard m title) = inert_none by
inert-gone_changes by leaves b (NewTitle m title) = inert_none by
inert-gone_changes by leaves b (SetRole m person role) = inert_none by
inert-gone_changes by leaves b (SetAhead m ahead) = inert_none by
inert-gone_changes by leaves b (SetGone m g) =
    inert-if by (b.number == m) (gone_added b g (place_in (ids b.tasks) g.template)) [] (inert-gone_added by leaves b g (place_in (ids b.tasks) g.template)) (inert_none by)
inert-gone_changes by leaves b (TakeGone m id k) =
    inert-if by (b.number == m) (gone_removed b k (place_in (ids b.tasks) id)) [] (inert-gone_removed by leaves b k (place_in (ids b.tasks) id)) (inert_none by)

pub inert-gone : {R : Type 0} (by : RowChange → List R → List R) → LeavesGone by → (b : Board) (cs : List Change) → IsInert by (flat_map (gone_changes b) cs)
inert-gone by leaves b cs = inert-flat_map by (gone_changes b) (inert-gone_changes by leaves b) cs

pub inert-title : {R : Type 0} (by : RowChange → List R → List R) → LeavesBoards by → (b : Board) (cs : List Change) → IsInert by (title_changes b cs)
inert-title by leaves b cs = inert-if by (list_any (sets_title b.number) cs) (SetTitle b.number b.title ∷ []) [] (inert_next by _ [] (leaves.title b.number b.title) (inert_none by)) (inert_none by)

pub inert-low : {R : Type 0} (by : RowChange → List R → List R) → LeavesBoards by → (old : ℕ) (b : Board) → IsInert by (low_changes old b)
inert-low by leaves old b = inert-if by (nat_lt old (length b.tasks)) (SetLow b.number (free b) ∷ []) [] (inert_next by _ [] (leaves.low b.number (free b)) (inert_none by)) (inert_none by)

inert-ahead : {R : Type 0} (by : RowChange → List R → List R) → LeavesHorizon by → (b : Board) (cs : List Change) → IsInert by (ahead_changes b cs)
inert-ahead by leaves b cs = inert-if by (list_any (sets_ahead b.number) cs) (SetHorizon b.number b.ahead ∷ []) [] (inert_next by _ [] (leaves.set b.number b.ahead) (inert_none by)) (inert_none by)

pub inert-later : {R : Type 0} (by : RowChange → List R → List R) → LeavesBoards by → LeavesHorizon by → LeavesTasks by → LeavesGone by
    → (old : ℕ) (b : Board) (cs : List Change) → IsInert by (later_board old b cs)
inert-later by boards ahead tasks gone old b cs =
    let put = flat_map (put_place b.number) cs in
    let templates = changed_templates b old put cs in
    inert-append by (title_changes b cs) _ (inert-title by boards b cs)
    (inert-append by (low_changes old b) _ (inert-low by boards old b)
    (inert-append by (ahead_changes b cs) _ (inert-ahead by ahead b cs)
    (inert-append by (rows_from (task_changes b old put templates) 0 b.tasks) (flat_map (gone_changes b) cs) (inert-tasks by tasks b old put templates) (inert-gone by gone b cs))))

-- a table of people or roles is left by all changes of boards
pub inert-boards : {R : Type 0} (by : RowChange → List R → List R) → LeavesBoards by → LeavesHorizon by → LeavesTasks by → LeavesGone by
    → (cs : List Change) (ws bs : List Board) → IsInert by (board_changes cs ws bs)
inert-boards by boards ahead tasks gone cs [] [] = inert_none by
inert-boards by boards ahead tasks gone cs (a ∷ ws) [] = inert_none by
inert-boards by boards ahead tasks gone cs [] (b ∷ bs) =
    inert-append by (new_board b) (board_changes cs [] bs)
    (inert_next by (AddBoard (board_row b)) _ (boards.added (board_row b)) (inert_next by (AddHorizon (horizon_row b)) _ (ahead.added (horizon_row b))
    (inert-append by (rows_from (λ i t. new_task b (i + 1) t) 0 b.tasks) (map AddGone (board_gone b)) (inert-new_tasks by tasks b) (inert-map by AddGone gone.added (board_gone b)))))
    (inert-boards by boards ahead tasks gone cs [] bs)
inert-boards by boards ahead tasks gone cs (a ∷ ws) (b ∷ bs) =
    inert-append by (kept_board (length a.tasks) b cs) (board_changes cs ws bs)
    (inert-if by (list_any (is_of_board b.number) cs) (later_board (length a.tasks) b cs) [] (inert-later by boards ahead tasks gone (length a.tasks) b cs) (inert_none by))
    (inert-boards by boards ahead tasks gone cs ws bs)

-- ---- the table of boards

abbrev pub IsBoardElsewhere : ℕ → BoardRow → Type 0
IsBoardElsewhere n = IsElsewhere (λ (r : BoardRow). r.id) n

first_free-same : (a b : Board) (n steps : ℕ) → b.number ≡ a.number → ids b.tasks ≡ ids a.tasks → first_free b n steps ≡ first_free a n steps
first_free-same a b n zero number same = refl
first_free-same a b n (suc steps) number same =
    rw (number, on-same a b (made a.number n) same, first_free-same a b (n + 1) steps number same) refl

free_same : (a b : Board) → b.number ≡ a.number → IsFrontOf ExtendsTask a.tasks b.tasks → length b.tasks ≤ length a.tasks → free b ≡ free a
unfolding free
free_same a b number front few =
    let more = ids_front a.tasks b.tasks front in
    let none : more.0 ≡ [] = nil_from_length more.0 (omega (arith, few, ap length more.1, length-append (ids a.tasks) more.0, ids-length a.tasks, ids-length b.tasks)) in
    let same : ids b.tasks ≡ ids a.tasks = more.1 ∙ ap (λ l. ids a.tasks ++ l) none ∙ append-nil (ids a.tasks) in
    let size : length b.tasks ≡ length a.tasks = sym (ids-length b.tasks) ∙ ap length same ∙ ids-length a.tasks in
    first_free-same a b 1 (length b.tasks) number same ∙ ap (first_free a 1) size

same_board_row : {n m : ℕ} {title other : List ℕ} {low least : ℕ} → n ≡ m → title ≡ other → low ≡ least
    → let first : BoardRow = record { id = n; title = title; low = low } in let second : BoardRow = record { id = m; title = other; low = least } in first ≡ second
same_board_row numbers titles lows = rw (numbers, titles, lows) refl

-- other changes leave the title
title_stays : (n : ℕ) (cs : List Change) (a : Board) → list_any (sets_title n) cs ≡ false → (replay n cs a).title ≡ a.title
title_stays n [] a none = refl
title_stays n (c ∷ cs) a none =
    let parts = or_false (sets_title n c) (list_any (sets_title n) cs) none in
    title_stays n cs (change_on n c a) parts.1 ∙ one n c a parts.0
  where
    one : (n : ℕ) (c : Change) (a : Board) → sets_title n c ≡ false → (change_on n c a).title ≡ a.title
    one n (PutTask m place t) a none = elim (n == m) as (λ q. (cond q (with_task_at place t a) a).title ≡ a.title) [ true ↦ refl | false ↦ refl ]
    one n (NewPerson name key) a none = refl
    one n (SetKey name key) a none = refl
    one n (NewBoard m title) a none = refl
    one n (NewTitle m title) a none = rw none refl
    one n (SetRole m person role) a none = refl
    one n (SetGone m g) a none = elim (n == m) as (λ q. (cond q (with_gone g a) a).title ≡ a.title) [ true ↦ refl | false ↦ refl ]
    one n (TakeGone m id k) a none = elim (n == m) as (λ q. (cond q (without_gone id k a) a).title ≡ a.title) [ true ↦ refl | false ↦ refl ]
    one n (SetAhead m ahead) a none = elim (n == m) as (λ q. (cond q (with_ahead ahead a) a).title ≡ a.title) [ true ↦ refl | false ↦ refl ]

-- the row of the first board with the title of the second
abbrev titled_row : Board → Board → BoardRow
titled_row a b = record { id = a.number; title = b.title; low = free a }

title_set : (a b : Board) (rest : List BoardRow) → b.number ≡ a.number → AllByRecursion (IsBoardElsewhere b.number) rest
    → board_by (SetTitle b.number b.title) (board_row a ∷ rest) ≡ titled_row a b ∷ rest
title_set a b rest number apart =
    first_changed (is_board b.number) (λ (board : BoardRow). let changed : BoardRow = record board { title = b.title } in changed) (board_row a) (titled_row a b) rest
    (eq-eqb a.number b.number (sym number)) refl (all_weaker _ _ (λ (r : BoardRow) off. ne_eqb r.id b.number off) rest apart)

title_turns : (a b : Board) (cs : List Change) → b.number ≡ a.number → b ≡ replay b.number cs a
    → Turns board_by (IsBoardElsewhere b.number) (title_changes b cs) (board_row a ∷ []) (titled_row a b ∷ [])
title_turns a b cs number made =
    elim (cases_Bool (list_any (sets_title b.number) cs)) [
      | inl set ↦ rw set (record { turned = λ rest apart. IsPermutation-same _ _ (title_set a b rest number apart) })
      | inr none ↦
          let same : b.title ≡ a.title = ap (λ (x : Board). x.title) made ∙ title_stays b.number cs a none in
          let row : board_row a ≡ titled_row a b = same_board_row refl (sym same) refl in
          rw (none, row) (turns_none board_by _ [] (titled_row a b ∷ []) (inert_none board_by))
    ]

low_set : (a b : Board) (rest : List BoardRow) → ExtendsBoard a b → AllByRecursion (IsBoardElsewhere b.number) rest
    → board_by (SetLow b.number (free b)) (titled_row a b ∷ rest) ≡ board_row b ∷ rest
low_set a b rest ext apart =
    first_changed (is_board b.number) (λ (board : BoardRow). let changed : BoardRow = record board { low = free b } in changed) (titled_row a b) (board_row b) rest
    (eq-eqb a.number b.number (sym ext.number)) (rw ext.number refl) (all_weaker _ _ (λ (r : BoardRow) off. ne_eqb r.id b.number off) rest apart)

low_turns : (a b : Board) → ExtendsBoard a b → Turns board_by (IsBoardElsewhere b.number) (low_changes (length a.tasks) b) (titled_row a b ∷ []) (board_row b ∷ [])
low_turns a b ext =
    elim (cases_Bool (nat_lt (length a.tasks) (length b.tasks))) [
      | inl grown ↦ rw grown (record { turned = λ rest apart. IsPermutation-same _ _ (low_set a b rest ext apart) })
      | inr same ↦
          let low = free_same a b ext.number ext.tasks (ltb-false (length a.tasks) (length b.tasks) same) in
          let row : titled_row a b ≡ board_row b = same_board_row (sym ext.number) refl (sym low) in
          rw (same, row) (turns_none board_by _ [] (board_row b ∷ []) (inert_none board_by))
    ]

boards_leave_tasks : LeavesTasks board_by
boards_leave_tasks =
    record { task = λ r rows. refl; text = λ n p body mask rows. refl; mask = λ n p mask rows. refl; link = λ r rows. refl; links = λ n p rows. refl; instance = λ r rows. refl }

boards_leave_horizon : LeavesHorizon board_by
boards_leave_horizon = record { added = λ r rows. refl; set = λ n ahead rows. refl }

boards_leave_gone : LeavesGone board_by
boards_leave_gone = record { added = λ r rows. refl; removed = λ n t k rows. refl }

pub board_later : (a b : Board) (cs : List Change) → ExtendsBoard a b → b ≡ replay b.number cs a → Turns board_by (IsBoardElsewhere b.number) (later_board (length a.tasks) b cs) (board_row a ∷ []) (board_row b ∷ [])
board_later a b cs ext made =
    let old = length a.tasks in
    let put = flat_map (put_place b.number) cs in
    let templates = changed_templates b old put cs in
    let others = ahead_changes b cs ++ (rows_from (task_changes b old put templates) 0 b.tasks ++ flat_map (gone_changes b) cs) in
    turns_twice board_by boards_unordered _ (title_changes b cs) (low_changes old b ++ others) (board_row a ∷ []) (titled_row a b ∷ []) (board_row b ∷ []) (title_turns a b cs ext.number made)
    (turns_then_inert board_by _ (low_changes old b) others (titled_row a b ∷ []) (board_row b ∷ []) (low_turns a b ext)
    (inert-append board_by (ahead_changes b cs) _ (inert-ahead board_by boards_leave_horizon b cs)
    (inert-append board_by (rows_from (task_changes b old put templates) 0 b.tasks) (flat_map (gone_changes b) cs) (inert-tasks board_by boards_leave_tasks b old put templates) (inert-gone board_by boards_leave_gone b cs))))

pub board_new : (b : Board) → Turns board_by (IsBoardElsewhere b.number) (new_board b) [] (board_row b ∷ [])
board_new b =
    turns_then_inert board_by _ (AddBoard (board_row b) ∷ []) (AddHorizon (horizon_row b) ∷ (rows_from (λ i t. new_task b (i + 1) t) 0 b.tasks ++ map AddGone (board_gone b))) [] (board_row b ∷ [])
    (turns_added board_by _ AddBoard (λ r rows. refl) (board_row b ∷ []))
    (inert_next board_by (AddHorizon (horizon_row b)) _ (λ rows. refl)
    (inert-append board_by (rows_from (λ i t. new_task b (i + 1) t) 0 b.tasks) (map AddGone (board_gone b)) (inert-new_tasks board_by boards_leave_tasks b) (inert-map board_by AddGone (λ r rows. refl) (board_gone b))))

-- ---- the tables of tasks, links and instances

-- the tasks of a board before and after
abbrev pub AreKept : Board → Board → List ℕ → List ℕ → Type 0
AreKept a b put templates =
    Matches (λ i s t. (i < length a.tasks) × IsKept a b put templates i s t) (λ i t. length a.tasks ≤ i) 0 a.tasks b.tasks

pub weaker : {A B : Type 0} (P P' : ℕ → A → B → Type 0) (Q Q' : ℕ → B → Type 0) → ((i : ℕ) (a : A) (b : B) → P i a b → P' i a b) → ((i : ℕ) (b : B) → Q i b → Q' i b)
    → (i : ℕ) (ws : List A) (bs : List B) → Matches P Q i ws bs → Matches P' Q' i ws bs
weaker P P' Q Q' p q i [] [] h = tt
weaker P P' Q Q' p q i [] (b ∷ bs) h = (q i b h.0, weaker P P' Q Q' p q (i + 1) [] bs h.1)
weaker P P' Q Q' p q i (a ∷ ws) [] h = absurd h
weaker P P' Q Q' p q i (a ∷ ws) (b ∷ bs) h = (p i a b h.0, weaker P P' Q Q' p q (i + 1) ws bs h.1)

pub task_at : (a : Board) (n : ℕ) → a.number ≡ n → (p : ℕ) (t : Task) → AreAt (λ (r : TaskRow). r.board) (λ (r : TaskRow). r.place) n p (task_row a p t ∷ [])
task_at a n number p t = ((number, refl), tt)

pub link_at : (a : Board) (n : ℕ) → a.number ≡ n → (p : ℕ) (t : Task) → AreAt (λ (r : LinkRow). r.board) (λ (r : LinkRow). r.place) n p (link_rows a p t)
link_at a n number p t = all-map _ (link_row a p) t.depends (all_of _ (λ id. (number, refl)) t.depends)

pub instance_at : (a : Board) (n : ℕ) → a.number ≡ n → (p : ℕ) (t : Task) → AreAt (λ (r : InstanceRow). r.board) (λ (r : InstanceRow). r.place) n p (instance_rows a p t)
instance_at a n number p t = go t.parent t.imask
  where
    go : (parent imask : Option ℕ) → AreAt (λ (r : InstanceRow). r.board) (λ (r : InstanceRow). r.place) n p (instance_rows_of a p parent imask)
    go None imask = tt
    go (Some id) None = tt
    go (Some id) (Some k) = ((number, refl), tt)

later_table : {R : Type 0} (by : RowChange → List R → List R) (IsApart : R → Type 0) → LeavesBoards by → LeavesHorizon by → LeavesGone by
    → (old : ℕ) (b : Board) (cs : List Change) (before after : List R)
    → Turns by IsApart (rows_from (task_changes b old (flat_map (put_place b.number) cs) (changed_templates b old (flat_map (put_place b.number) cs) cs)) 0 b.tasks) before after
    → Turns by IsApart (later_board old b cs) before after
later_table by IsApart boards ahead gone old b cs before after turn =
    inert_then_turns by IsApart (title_changes b cs) _ before after (inert-title by boards b cs)
    (inert_then_turns by IsApart (low_changes old b) _ before after (inert-low by boards old b)
    (inert_then_turns by IsApart (ahead_changes b cs) _ before after (inert-ahead by ahead b cs)
    (turns_then_inert by IsApart (rows_from (task_changes b old (flat_map (put_place b.number) cs) (changed_templates b old (flat_map (put_place b.number) cs) cs)) 0 b.tasks) (flat_map (gone_changes b) cs)
    before after turn (inert-gone by gone b cs))))

new_table : {R : Type 0} (by : RowChange → List R → List R) (IsApart : R → Type 0) → ((r : BoardRow) (rows : List R) → by (AddBoard r) rows ≡ rows) → ((r : HorizonRow) (rows : List R) → by (AddHorizon r) rows ≡ rows) → ((r : GoneRow) (rows : List R) → by (AddGone r) rows ≡ rows)
    → (b : Board) (after : List R) → Turns by IsApart (rows_from (λ i t. new_task b (i + 1) t) 0 b.tasks) [] after → Turns by IsApart (new_board b) [] after
new_table by IsApart board ahead gone b after turn =
    inert_then_turns by IsApart (AddBoard (board_row b) ∷ AddHorizon (horizon_row b) ∷ []) _ [] after
    (inert_next by (AddBoard (board_row b)) _ (board (board_row b)) (inert_next by (AddHorizon (horizon_row b)) [] (ahead (horizon_row b)) (inert_none by)))
    (turns_then_inert by IsApart (rows_from (λ i t. new_task b (i + 1) t) 0 b.tasks) (map AddGone (board_gone b)) [] after turn (inert-map by AddGone gone (board_gone b)))

all_new : {B : Type 0} (Q : ℕ → B → Type 0) → ((i : ℕ) (b : B) → Q i b) → (P : ℕ → B → B → Type 0) (i : ℕ) (bs : List B) → Matches P Q i [] bs
all_new Q each P i [] = tt
all_new Q each P i (b ∷ bs) = (each i b, all_new Q each P (i + 1) bs)

pub tasks_later : (a b : Board) (cs : List Change) → b.number ≡ a.number
    → AreKept a b (flat_map (put_place b.number) cs) (changed_templates b (length a.tasks) (flat_map (put_place b.number) cs) cs)
    → Turns task_by (IsElsewhere (λ (r : TaskRow). r.board) b.number) (later_board (length a.tasks) b cs) (board_tasks a) (board_tasks b)
tasks_later a b cs number kept =
    let old = length a.tasks in
    let put = flat_map (put_place b.number) cs in
    let templates = changed_templates b old put cs in
    later_table task_by _ (record { added = λ r rows. refl; title = λ n title rows. refl; low = λ n low rows. refl }) (record { added = λ r rows. refl; set = λ n ahead rows. refl }) (record { added = λ r rows. refl; removed = λ n t k rows. refl }) old b cs (board_tasks a) (board_tasks b)
    (turns_narrow task_by (IsBefore (λ (r : TaskRow). r.board) (λ (r : TaskRow). r.place) b.number (0 + 1)) _ _ _ _ (λ r off on at. off on)
    (turns_places task_by tasks_unordered (λ (r : TaskRow). r.board) (λ (r : TaskRow). r.place) b.number 0 (task_changes b old put templates) (λ p s. task_row a p s ∷ []) (λ p t. task_row b p t ∷ [])
    (task_at a b.number (sym number)) (task_at b b.number refl) a.tasks b.tasks
    (weaker _ _ _ _ (λ i s t h. task_kept a b old put templates i s t number h.0 h.1)
    (λ i t past. new_there task_by _ b old put templates i t (task_row b (i + 1) t ∷ []) past (task_new _ b (i + 1) t)) 0 a.tasks b.tasks kept)))

pub tasks_new : (b : Board) → Turns task_by (IsElsewhere (λ (r : TaskRow). r.board) b.number) (new_board b) [] (board_tasks b)
tasks_new b =
    new_table task_by _ (λ r rows. refl) (λ r rows. refl) (λ r rows. refl) b (board_tasks b)
    (turns_narrow task_by (IsBefore (λ (r : TaskRow). r.board) (λ (r : TaskRow). r.place) b.number (0 + 1)) _ _ _ _ (λ r off on at. off on)
    (turns_places task_by tasks_unordered (λ (r : TaskRow). r.board) (λ (r : TaskRow). r.place) b.number 0 (λ i t. new_task b (i + 1) t) (λ p s. task_row b p s ∷ []) (λ p t. task_row b p t ∷ [])
    (task_at b b.number refl) (task_at b b.number refl) [] b.tasks
    (all_new _ (λ i t. task_new _ b (i + 1) t) (λ i s t. Unit {0}) 0 b.tasks)))

pub links_later : (a b : Board) (cs : List Change) → b.number ≡ a.number
    → AreKept a b (flat_map (put_place b.number) cs) (changed_templates b (length a.tasks) (flat_map (put_place b.number) cs) cs)
    → Turns link_by (IsElsewhere (λ (r : LinkRow). r.board) b.number) (later_board (length a.tasks) b cs) (board_links a) (board_links b)
links_later a b cs number kept =
    let old = length a.tasks in
    let put = flat_map (put_place b.number) cs in
    let templates = changed_templates b old put cs in
    later_table link_by _ (record { added = λ r rows. refl; title = λ n title rows. refl; low = λ n low rows. refl }) (record { added = λ r rows. refl; set = λ n ahead rows. refl }) (record { added = λ r rows. refl; removed = λ n t k rows. refl }) old b cs (board_links a) (board_links b)
    (turns_narrow link_by (IsBefore (λ (r : LinkRow). r.board) (λ (r : LinkRow). r.place) b.number (0 + 1)) _ _ _ _ (λ r off on at. off on)
    (turns_places link_by links_unordered (λ (r : LinkRow). r.board) (λ (r : LinkRow). r.place) b.number 0 (task_changes b old put templates) (link_rows a) (link_rows b)
    (link_at a b.number (sym number)) (link_at b b.number refl) a.tasks b.tasks
    (weaker _ _ _ _ (λ i s t h. link_kept a b old put templates i s t number h.0 h.1)
    (λ i t past. new_there link_by _ b old put templates i t (link_rows b (i + 1) t) past (link_new _ b (i + 1) t)) 0 a.tasks b.tasks kept)))

pub links_new : (b : Board) → Turns link_by (IsElsewhere (λ (r : LinkRow). r.board) b.number) (new_board b) [] (board_links b)
links_new b =
    new_table link_by _ (λ r rows. refl) (λ r rows. refl) (λ r rows. refl) b (board_links b)
    (turns_narrow link_by (IsBefore (λ (r : LinkRow). r.board) (λ (r : LinkRow). r.place) b.number (0 + 1)) _ _ _ _ (λ r off on at. off on)
    (turns_places link_by links_unordered (λ (r : LinkRow). r.board) (λ (r : LinkRow). r.place) b.number 0 (λ i t. new_task b (i + 1) t) (link_rows b) (link_rows b)
    (link_at b b.number refl) (link_at b b.number refl) [] b.tasks
    (all_new _ (λ i t. link_new _ b (i + 1) t) (λ i s t. Unit {0}) 0 b.tasks)))

pub instances_later : (a b : Board) (cs : List Change) → b.number ≡ a.number
    → AreKept a b (flat_map (put_place b.number) cs) (changed_templates b (length a.tasks) (flat_map (put_place b.number) cs) cs)
    → Turns instance_by (IsElsewhere (λ (r : InstanceRow). r.board) b.number) (later_board (length a.tasks) b cs) (board_instances a) (board_instances b)
instances_later a b cs number kept =
    let old = length a.tasks in
    let put = flat_map (put_place b.number) cs in
    let templates = changed_templates b old put cs in
    later_table instance_by _ (record { added = λ r rows. refl; title = λ n title rows. refl; low = λ n low rows. refl }) (record { added = λ r rows. refl; set = λ n ahead rows. refl }) (record { added = λ r rows. refl; removed = λ n t k rows. refl }) old b cs (board_instances a) (board_instances b)
    (turns_narrow instance_by (IsBefore (λ (r : InstanceRow). r.board) (λ (r : InstanceRow). r.place) b.number (0 + 1)) _ _ _ _ (λ r off on at. off on)
    (turns_places instance_by instances_unordered (λ (r : InstanceRow). r.board) (λ (r : InstanceRow). r.place) b.number 0 (task_changes b old put templates) (instance_rows a) (instance_rows b)
    (instance_at a b.number (sym number)) (instance_at b b.number refl) a.tasks b.tasks
    (weaker _ _ _ _ (λ i s t h. instance_kept a b old put templates i s t h.0 h.1)
    (λ i t past. new_there instance_by _ b old put templates i t (instance_rows b (i + 1) t) past (instance_new _ b (i + 1) t)) 0 a.tasks b.tasks kept)))

pub instances_new : (b : Board) → Turns instance_by (IsElsewhere (λ (r : InstanceRow). r.board) b.number) (new_board b) [] (board_instances b)
instances_new b =
    new_table instance_by _ (λ r rows. refl) (λ r rows. refl) (λ r rows. refl) b (board_instances b)
    (turns_narrow instance_by (IsBefore (λ (r : InstanceRow). r.board) (λ (r : InstanceRow). r.place) b.number (0 + 1)) _ _ _ _ (λ r off on at. off on)
    (turns_places instance_by instances_unordered (λ (r : InstanceRow). r.board) (λ (r : InstanceRow). r.place) b.number 0 (λ i t. new_task b (i + 1) t) (instance_rows b) (instance_rows b)
    (instance_at b b.number refl) (instance_at b b.number refl) [] b.tasks
    (all_new _ (λ i t. instance_new _ b (i + 1) t) (λ i s t. Unit {0}) 0 b.tasks)))

-- ---- the table of gone places

gone_leaves_tasks : LeavesTasks gone_by
gone_leaves_tasks =
    record { task = λ r rows. refl; text = λ n p body mask rows. refl; mask = λ n p mask rows. refl; link = λ r rows. refl; links = λ n p rows. refl; instance = λ r rows. refl }

pub gone_later : (old : ℕ) (b : Board) (cs : List Change) (before : List GoneRow) → Turns gone_by (IsGoneElsewhere b.number) (flat_map (gone_changes b) cs) before (board_gone b)
    → Turns gone_by (IsGoneElsewhere b.number) (later_board old b cs) before (board_gone b)
gone_later old b cs before turn =
    let put = flat_map (put_place b.number) cs in
    let templates = changed_templates b old put cs in
    let boards : LeavesBoards gone_by = record { added = λ r rows. refl; title = λ n title rows. refl; low = λ n low rows. refl } in
    inert_then_turns gone_by _ (title_changes b cs) _ before (board_gone b) (inert-title gone_by boards b cs)
    (inert_then_turns gone_by _ (low_changes old b) _ before (board_gone b) (inert-low gone_by boards old b)
    (inert_then_turns gone_by _ (ahead_changes b cs) _ before (board_gone b) (inert-ahead gone_by (record { added = λ r rows. refl; set = λ n ahead rows. refl }) b cs)
    (inert_then_turns gone_by _ (rows_from (task_changes b old put templates) 0 b.tasks) (flat_map (gone_changes b) cs) before (board_gone b) (inert-tasks gone_by gone_leaves_tasks b old put templates) turn)))

pub gone_new : (b : Board) → Turns gone_by (IsGoneElsewhere b.number) (new_board b) [] (board_gone b)
gone_new b =
    inert_then_turns gone_by _ (AddBoard (board_row b) ∷ AddHorizon (horizon_row b) ∷ []) _ [] (board_gone b)
    (inert_next gone_by (AddBoard (board_row b)) _ (λ rows. refl) (inert_next gone_by (AddHorizon (horizon_row b)) [] (λ rows. refl) (inert_none gone_by)))
    (inert_then_turns gone_by _ (rows_from (λ i t. new_task b (i + 1) t) 0 b.tasks) (map AddGone (board_gone b)) [] (board_gone b) (inert-new_tasks gone_by gone_leaves_tasks b)
    (turns_added gone_by _ AddGone (λ r rows. refl) (board_gone b)))

-- ---- a board that no change is of

pub untouched : (n : ℕ) (cs : List Change) (a : Board) → list_any (is_of_board n) cs ≡ false → replay n cs a ≡ a
untouched n [] a none = refl
untouched n (c ∷ cs) a none =
    let parts = or_false (is_of_board n c) (list_any (is_of_board n) cs) none in
    ap (replay n cs) (one n c a parts.0) ∙ untouched n cs a parts.1
  where
    one : (n : ℕ) (c : Change) (a : Board) → is_of_board n c ≡ false → change_on n c a ≡ a
    one n (PutTask m place t) a none = rw none refl
    one n (NewPerson name key) a none = refl
    one n (SetKey name key) a none = refl
    one n (NewBoard m title) a none = refl
    one n (NewTitle m title) a none = rw none refl
    one n (SetRole m person role) a none = refl
    one n (SetGone m g) a none = rw none refl
    one n (TakeGone m id k) a none = rw none refl
    one n (SetAhead m ahead) a none = rw none refl

-- a table is turned by the changes of a board where it is by those of a board that changes are of
pub kept_turns : {R : Type 0} (by : RowChange → List R → List R) (IsApart : R → Type 0) (f : Board → List R) (a b : Board) (cs : List Change) → b ≡ replay b.number cs a
    → Turns by IsApart (later_board (length a.tasks) b cs) (f a) (f b) → Turns by IsApart (kept_board (length a.tasks) b cs) (f a) (f b)
kept_turns by IsApart f a b cs made turn =
    elim (cases_Bool (list_any (is_of_board b.number) cs)) [
      | inl of ↦ rw of turn
      | inr none ↦
          let same : f a ≡ f b = ap f (sym (made ∙ untouched b.number cs a none)) in
          rw (none, same) (turns_none by IsApart [] (f b) (inert_none by))
    ]
