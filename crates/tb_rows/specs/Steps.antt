-- The changes of rows of a board that follow from changes of a world.
use Rattle.std.specs.Prelude.{◌≡◌, ℕ, ◌+◌, ◌==◌, Bool, false, not, ◌||◌, List, [], ◌∷◌, ◌++◌, Option, Some, None, if◌then◌else◌, length, map, nat_lt}
use Rattle.std.specs.List.{flat_map, list_any}
use Rattle.tb_task.specs.declared.task.Task.{Task}
use Rattle.tb_json.specs.Stored.{stored_text}
use Rattle.tb_board.specs.declared.board.Board.{Board}
use Rattle.tb_board.specs.declared.change.Change.{Change}
use Rattle.tb_board.specs.declared.change.Change.TheVariants.{PutTask, AddPerson as NewPerson, SetKey, AddBoard as NewBoard, SetTitle as NewTitle, SetRole, SetGone, TakeGone, SetAhead}
use Rattle.tb_board.specs.declared.gone.Gone.{Gone}
use Rattle.tb_board.specs.declared.world.World.{World}
use Rattle.tb_board.specs.Tasks.{ids, place_in}
use Rattle.tb_board.specs.Links.{with_place}
use Rattle.tb_board.specs.Numbers.{free}
use Rattle.tb_sql_tables.specs.Content.{Content}
use Rattle.tb_sql.specs.declared.changes.RowChange.{RowChange}
use Rattle.tb_sql.specs.declared.changes.RowChange.TheVariants.{SetTitle, SetLow, AddTask, SetText, SetMask, AddLink, RemoveLinks, AddInstance, AddGone, RemoveGone, SetHorizon}
use Rattle.tb_sql.specs.Writing.{changed_by_all}
use Rattle.tb_rows.specs.Rows.{rows_from, mask_cell, task_row, link_rows, instance_rows, gone_row, world_rows, HaveSameRows}

-- ---- which tasks of a board are concerned, by their places from 0

-- where a change puts a task on board n
abbrev pub put_place : ℕ → Change → List ℕ
put_place n (PutTask m place t) = if n == m then place ∷ [] else []
put_place n (NewPerson name key) = []
put_place n (SetKey name key) = []
put_place n (NewBoard m title) = []
put_place n (NewTitle m title) = []
put_place n (SetRole m person role) = []
put_place n (SetGone m g) = []
put_place n (TakeGone m id k) = []
put_place n (SetAhead m ahead) = []

abbrev pub is_among : List ℕ → ℕ → Bool
is_among places place = list_any (λ p. p == place) places

-- whether a change is of board n
abbrev pub is_of_board : ℕ → Change → Bool
is_of_board n (PutTask m place t) = n == m
is_of_board n (NewPerson name key) = false
is_of_board n (SetKey name key) = false
is_of_board n (NewBoard m title) = false
is_of_board n (NewTitle m title) = n == m
is_of_board n (SetRole m person role) = false
is_of_board n (SetGone m g) = n == m
is_of_board n (TakeGone m id k) = n == m
is_of_board n (SetAhead m ahead) = n == m

abbrev pub template_place : Board → Option ℕ → List ℕ
template_place b None = []
template_place b (Some id) = with_place (place_in (ids b.tasks) id) []

-- the template of which a change takes or leaves a gone place
abbrev pub gone_template : Board → Change → List ℕ
gone_template b (PutTask m place t) = []
gone_template b (NewPerson name key) = []
gone_template b (SetKey name key) = []
gone_template b (NewBoard m title) = []
gone_template b (NewTitle m title) = []
gone_template b (SetRole m person role) = []
gone_template b (SetGone m g) = if b.number == m then template_place b (Some g.template) else []
gone_template b (TakeGone m id k) = if b.number == m then template_place b (Some id) else []
gone_template b (SetAhead m ahead) = []

-- the task is new, or one of the changes puts it
abbrev pub is_changed : ℕ → List ℕ → ℕ → Bool
is_changed old put place = not (nat_lt place old) || is_among put place

abbrev pub instance_template : Board → ℕ → List ℕ → ℕ → Task → List ℕ
instance_template b old put place t = if is_changed old put place
    then template_place b t.parent else []

-- the templates of which an instance or a gone place is changed
abbrev pub changed_templates : Board → ℕ → List ℕ → List Change → List ℕ
changed_templates b old put cs =
    rows_from (instance_template b old put) 0 b.tasks ++ flat_map (gone_template b) cs

-- ---- the changes of rows of a task, by its place from 1

abbrev pub new_task : Board → ℕ → Task → List RowChange
new_task b place t =
    AddTask (task_row b place t)
    ∷ (map AddLink (link_rows b place t) ++ map AddInstance (instance_rows b place t))

abbrev pub put_task : Board → ℕ → Task → List RowChange
put_task b place t = SetText b.number place (stored_text t) (mask_cell b t)
    ∷ RemoveLinks b.number place ∷ map AddLink (link_rows b place t)

abbrev pub new_mask : Board → ℕ → Task → List RowChange
new_mask b place t = SetMask b.number place (mask_cell b t) ∷ []

-- of the task at a place from 0, where there were so many tasks, and these are put, and these templates changed
abbrev pub task_changes : Board → ℕ → List ℕ → List ℕ → ℕ → Task → List RowChange
task_changes b old put templates place t =
    if nat_lt place old
    then (if is_among put place then put_task b (place + 1) t
    else (if is_among templates place then new_mask b (place + 1) t else []))
    else new_task b (place + 1) t

-- ---- those of a board

abbrev pub gone_added : Board → Gone → Option ℕ → List RowChange
gone_added b g None = []
gone_added b g (Some place) = AddGone (gone_row b g) ∷ []

abbrev pub gone_removed : Board → ℕ → Option ℕ → List RowChange
gone_removed b k None = []
gone_removed b k (Some place) = RemoveGone b.number (place + 1) k ∷ []

abbrev pub gone_changes : Board → Change → List RowChange
gone_changes b (PutTask m place t) = []
gone_changes b (NewPerson name key) = []
gone_changes b (SetKey name key) = []
gone_changes b (NewBoard m title) = []
gone_changes b (NewTitle m title) = []
gone_changes b (SetRole m person role) = []
gone_changes b (SetGone m g) = if b.number == m
    then gone_added b g (place_in (ids b.tasks) g.template) else []
gone_changes b (TakeGone m id k) = if b.number == m
    then gone_removed b k (place_in (ids b.tasks) id) else []
gone_changes b (SetAhead m ahead) = []

-- whether a change sets the title of board n
abbrev pub sets_title : ℕ → Change → Bool
sets_title n (PutTask m place t) = false
sets_title n (NewPerson name key) = false
sets_title n (SetKey name key) = false
sets_title n (NewBoard m title) = false
sets_title n (NewTitle m title) = n == m
sets_title n (SetRole m person role) = false
sets_title n (SetGone m g) = false
sets_title n (TakeGone m id k) = false
sets_title n (SetAhead m ahead) = false

abbrev pub title_changes : Board → List Change → List RowChange
title_changes b cs = if list_any (sets_title b.number) cs
    then SetTitle b.number b.title ∷ [] else []

-- whether a change sets how far ahead board n looks
abbrev pub sets_ahead : ℕ → Change → Bool
sets_ahead n (PutTask m place t) = false
sets_ahead n (NewPerson name key) = false
sets_ahead n (SetKey name key) = false
sets_ahead n (NewBoard m title) = false
sets_ahead n (NewTitle m title) = false
sets_ahead n (SetRole m person role) = false
sets_ahead n (SetGone m g) = false
sets_ahead n (TakeGone m id k) = false
sets_ahead n (SetAhead m ahead) = n == m

abbrev pub ahead_changes : Board → List Change → List RowChange
ahead_changes b cs = if list_any (sets_ahead b.number) cs
    then SetHorizon b.number b.ahead ∷ [] else []

abbrev pub low_changes : ℕ → Board → List RowChange
low_changes old b = if nat_lt old (length b.tasks) then SetLow b.number (free b) ∷ [] else []

-- of a board that had so many tasks, and has others after the changes
abbrev pub later_board : ℕ → Board → List Change → List RowChange
later_board old b cs =
    let put = flat_map (put_place b.number) cs in
    title_changes b cs
    ++ (low_changes old b
    ++ (ahead_changes b cs
    ++ (rows_from (task_changes b old put (changed_templates b old put cs)) 0 b.tasks
    ++ flat_map (gone_changes b) cs)))

abbrev pub kept_board : ℕ → Board → List Change → List RowChange
kept_board old b cs = if list_any (is_of_board b.number) cs then later_board old b cs else []

-- Of tables with the rows of the first world the changes make tables with the rows of the second, and kept replies stay.
pub record Leads (rows : List RowChange) (w v : World) : Type 0 where
  pub tables : (c : Content) → HaveSameRows c (world_rows w)
      → HaveSameRows (changed_by_all rows c) (world_rows v)
  pub kept : (c : Content) → (changed_by_all rows c).kept ≡ c.kept
  pub history : (c : Content) → (changed_by_all rows c).history ≡ c.history
