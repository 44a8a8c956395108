-- The tasks of a board, as an export of it shows them.
use Rattle.std.specs.Prelude.{ℕ, List, [], ◌∷◌, ◌++◌, codes, Option, Some, None, option_and_then, Result, Ok, Err}
use Rattle.serde_json.specs.Data.{Data, Items, no_items, item}
use Rattle.serde_json.specs.Find.{as_array}
use Rattle.serde_json.specs.Read.{read}
use Rattle.tb_board.specs.Blocked.{blocked, blocking}
use Rattle.tb_board.specs.declared.board.Board.{Board}
use Rattle.tb_finding.specs.declared.look.Look.{Look}
use Rattle.tb_json.specs.Reading.{task_of}
use Rattle.tb_json.specs.declared.fault.JsonFault.{JsonFault}
use Rattle.tb_my.specs.Shown.{text_at}
use Rattle.tb_task.specs.Status.{status_of}
use Rattle.tb_task.specs.declared.incoming.Incoming.{Incoming}
use Rattle.tb_task.specs.declared.status.Status.{Status}
use Rattle.tb_task.specs.declared.task.Task.{Task}

abbrev pub Text : Type 0
Text = List ℕ

-- the status that a task is shown with
abbrev pub told_status : Data → Option Status
told_status value = option_and_then status_of (text_at (codes "status") value)

abbrev pub with_status : Task → Option Status → Task
with_status t None = t
with_status t (Some s) = record t { status = s }

-- with the template of which it is an instance, and with the status that is told
-- Rule: `tb` takes the status that the server tells, whatever the clock here says. Tried by my.sh.
abbrev pub linked_task : Incoming → Option Status → Task
linked_task i s =
    record (with_status i.task s) { parent = i.raw_parent; imask = i.raw_imask }

abbrev pub read_or_none : Option Status → Result Incoming JsonFault → Option Task
read_or_none s (Ok incoming) = Some (linked_task incoming s)
read_or_none s (Err fault) = None

-- the task that a value is at a moment
abbrev pub task_in : ℕ → Data → Option Task
task_in moment value = read_or_none (told_status value) (task_of moment value)

abbrev pub with_tasks : ℕ → List Task → Items → Option (List Task)
with_tasks moment tasks no_items = Some tasks
with_tasks moment tasks (item value more) =
    option_and_then (λ t. with_tasks moment (tasks ++ t ∷ []) more) (task_in moment value)

abbrev pub tasks_of : ℕ → Option Items → Option (List Task)
tasks_of moment None = None
tasks_of moment (Some items) = with_tasks moment [] items

abbrev pub tasks_in : ℕ → Text → Option (List Task)
tasks_in moment text = tasks_of moment (option_and_then as_array (read text))

-- a board of these tasks, whose number and title say nothing
abbrev pub board_of : List Task → Board
board_of tasks =
    record { number = 1; title = codes "-"; tasks = tasks; gone = []; ahead = 1 }

-- which of them are blocked, and which are blocking
abbrev pub look_of : List Task → Look
look_of tasks = record {
  tasks = tasks;
  blocked = blocked (board_of tasks);
  blocking = blocking (board_of tasks);
}
