-- The listing of a board at a moment.
use Rattle.std.specs.Prelude.{ℕ, Bool, true, false, List, [], ◌∷◌, ◌++◌, ◌+◌, Option, Some, None, is_some, codes, decimal, length, slice_get, if◌then◌else◌}
use Rattle.tb_task.specs.MomentText.{moment_text}
use Rattle.tb_task.specs.declared.task.Task.{Task}
use Rattle.tb_task.specs.declared.status.Status.{Status}
use Rattle.tb_task.specs.declared.status.Status.TheVariants.{Pending, Waiting, Recurring, Completed, Deleted}
use Rattle.tb_graph.specs.Marks.{is_marked}
use Rattle.tb_board.specs.declared.board.Board.{Board}
use Rattle.tb_board.specs.Board.{wake}
use Rattle.tb_board.specs.Blocked.{blocked, blocking}
use Rattle.tb_report.specs.Rank.{Rank, rank_order, ordered}
use Rattle.tb_report.specs.Row.{row_text, shown_text}
use Rattle.tb_report.specs.Urgencies.{is_waiting_now, urgency_of}

-- pending and waiting tasks are listed
-- Rule: the listing has pending and waiting tasks. Tried by cycle.
abbrev pub is_listed : Status → Bool
is_listed Pending = true
is_listed Waiting = true
is_listed Recurring = false
is_listed Completed = false
is_listed Deleted = false

-- which tasks wait for others, and for which others wait, by their places from 0
pub record Waits : Type 0 where
  pub blocked : List Bool
  pub blocking : List Bool

abbrev pub rank : Waits → ℕ → ℕ → Task → Rank
rank w m place t =
    (record { 0 = urgency_of (is_marked w.blocked place) (is_marked w.blocking place) m t }, place)

-- the rank of a task, if it is listed
abbrev pub rank_if_listed : Waits → ℕ → ℕ → Task → List Rank
rank_if_listed w m place t = if is_listed t.status then rank w m place t ∷ [] else []

-- the ranks of the listed tasks, of which the first stands at a place
abbrev pub ranks_from : Waits → ℕ → ℕ → List Task → List Rank
ranks_from w m place [] = []
ranks_from w m place (t ∷ ts) = rank_if_listed w m place t ++ ranks_from w m (place + 1) ts

abbrev pub header : List ℕ
header = codes "place  urgency flg due              project      description\n"

-- W waiting, * started, b blocked, k blocking
abbrev pub standing_flag : Task → List ℕ
standing_flag t = if is_waiting_now t.status then codes "W" else if is_some t.start then codes "*"
    else codes "-"

abbrev pub flag : Bool → List ℕ → List ℕ
flag true letter = letter
flag false letter = codes "-"

abbrev pub flags : Bool → Bool → Task → List ℕ
flags is_blocked is_blocking t =
    standing_flag t ++ (flag is_blocked (codes "b") ++ flag is_blocking (codes "k"))

abbrev pub due_text : Option ℕ → List ℕ
due_text None = codes "-"
due_text (Some due) = moment_text due

abbrev pub project_text : Option (List ℕ) → List ℕ
project_text None = codes "-"
project_text (Some project) = shown_text project

-- the line of the task at the rank's place; people count places from 1
abbrev pub line : Waits → Rank → Option Task → List ℕ
line w r None = []
line w r (Some t) =
    row_text (r.1 + 1) r.0.0 (flags (is_marked w.blocked r.1) (is_marked w.blocking r.1) t)
    (due_text t.due) (project_text t.project) (shown_text t.description)

abbrev pub lines : Waits → List Task → List Rank → List ℕ
lines w tasks [] = []
lines w tasks (r ∷ rs) = line w r (slice_get tasks r.1) ++ lines w tasks rs

abbrev pub last_line : ℕ → ℕ → List ℕ
last_line listed all = decimal listed ++ (codes " of " ++ (decimal all ++ codes " tasks\n"))

abbrev pub listed : Waits → List Task → List Rank → List ℕ
listed w tasks ranks = header ++ (lines w tasks ranks ++ last_line (length ranks) (length tasks))

-- the pending and waiting ones of these tasks, by falling urgency and then by place
unfoldable pub tasks_listed : Waits → List Task → ℕ → List ℕ
tasks_listed w tasks m = listed w tasks (ordered rank_order (ranks_from w m 0 tasks))

-- an open task is blocked by open tasks on which it depends, and is blocking where another open task depends on it
abbrev pub waits_on : Board → Waits
waits_on b = record { blocked = blocked b; blocking = blocking b }

abbrev pub listing_awake : Board → ℕ → List ℕ
listing_awake b m = tasks_listed (waits_on b) b.tasks m

-- the woken board's listing
abbrev pub listing : Board → ℕ → List ℕ
listing b m = listing_awake (wake b m) m
