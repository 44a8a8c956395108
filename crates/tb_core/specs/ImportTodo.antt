-- Importing tasks that lines of todo.txt make.
use Rattle.std.specs.Prelude.{◌≡◌, ℕ, ◌+◌, ◌-◌, ◌==◌, Bool, true, false, not, ◌||◌, List, [], ◌∷◌, ◌++◌, Option, Some, None, is_some, Result, if◌then◌else◌, length, nat_lt}
use Rattle.std.specs.BTreeSet.{BTreeSet, contains}
use Rattle.std.specs.List.{list_any}
use Rattle.std.specs.Ordering.{nat_cmp}
use Rattle.tb_task.specs.declared.status.Status.{Status}
use Rattle.tb_task.specs.declared.status.Status.TheVariants.{Pending, Waiting, Recurring, Completed, Deleted}
use Rattle.tb_task.specs.declared.task.Task.{Task}
use Rattle.tb_task.specs.declared.checks.Field.{Field}
use Rattle.tb_task.specs.Checks.{fault_of}
use Rattle.tb_board.specs.declared.board.Board.{Board}
use Rattle.tb_board.specs.Tasks.{has_id}
use Rattle.tb_core.specs.declared.command.AnswerDetail.{AnswerDetail}
use Rattle.tb_core.specs.declared.command.AnswerDetail.TheVariants.{TodoImported}
use Rattle.tb_core.specs.declared.refusal.Refusal.{Refusal}
use Rattle.tb_core.specs.declared.refusal.Refusal.TheVariants.{BadTaskAt, Full}
use Rattle.tb_core.specs.Add.{first_fault}
use Rattle.tb_core.specs.Refusals.{least, unless_refused, where_holds}
use Rattle.tb_task.specs.Limits.{most_tasks}

abbrev pub is_pending_or_completed : Status → Bool
is_pending_or_completed Pending = true
is_pending_or_completed Waiting = false
is_pending_or_completed Recurring = false
is_pending_or_completed Completed = true
is_pending_or_completed Deleted = false

-- it recurs, or hangs on another task
abbrev pub is_tied : Task → Bool
is_tied t = is_some t.recur || is_some t.parent || is_some t.imask || not (length t.depends == 0)

-- A line makes tasks that are pending or completed and tied to nothing. Any other task is a bad pair, so that no such task
-- comes onto a board, whoever made the list.
abbrev pub is_of_no_line : Task → Bool
is_of_no_line t = not (is_pending_or_completed t.status) || is_tied t

-- the fault of the task itself, or that no line makes it
abbrev pub line_fault : Task → Option Field
line_fault t = first_fault (fault_of t) (is_of_no_line t)

abbrev pub bad_at : ℕ → Option Field → Option Refusal → Option Refusal
bad_at at None later = later
bad_at at (Some field) later = Some (BadTaskAt at field)

-- the first task that has a fault, whether it is known or not, counted from this number on
abbrev pub first_bad : ℕ → List Task → Option Refusal
first_bad at [] = None
first_bad at (t ∷ ts) = bad_at at (line_fault t) (first_bad (at + 1) ts)

-- the tasks whose identifier none has that was there before: on the board, or earlier in the list
-- Rule: a line whose task is there adds nothing. Tried by equal_todo_lines.
abbrev pub new_beside : List Task → List Task → List Task
new_beside before [] = []
new_beside before (t ∷ ts) = if list_any (has_id t.id) before then new_beside before ts
    else t ∷ new_beside (before ++ t ∷ []) ts

abbrev pub new_tasks : Board → List Task → List Task
new_tasks b ts = new_beside b.tasks ts

-- the new tasks go last in their order, and nothing else changes
abbrev pub imported : Board → List Task → Board
imported b ts = record b { tasks = b.tasks ++ new_tasks b ts }

abbrev pub import_todo_refusals : Board → List Task → List (Option Refusal)
import_todo_refusals b ts =
    first_bad 0 ts
    ∷ where_holds Full (nat_lt most_tasks (length b.tasks + length (new_tasks b ts)))
    ∷ []

abbrev pub judged_import_todo : Board → List Task → Result (Board × AnswerDetail) Refusal
judged_import_todo b ts =
    unless_refused (least (import_todo_refusals b ts)) (imported b ts)
    (TodoImported (length ts - length (new_tasks b ts)) (length (new_tasks b ts)))

-- the set has the identifiers of these tasks
abbrev pub HasIdsOf : List Task → BTreeSet ℕ → Type 0
HasIdsOf ts s = (id : ℕ) → contains nat_cmp s id ≡ list_any (has_id id) ts
