-- The task that a line makes.
use Rattle.std.specs.Prelude.{ℕ, ◌==◌, Bool, true, false, if◌then◌else◌, List, [], ◌∷◌, ◌++◌, Option, Some, None, option_map, decimal}
use Rattle.tb_task.specs.TaskId.{made, named_id}
use Rattle.tb_task.specs.declared.priority.Priority.{Priority}
use Rattle.tb_task.specs.declared.priority.Priority.TheVariants.{High, Medium, Low}
use Rattle.tb_task.specs.declared.status.Status.{Status}
use Rattle.tb_task.specs.declared.status.Status.TheVariants.{Pending, Completed}
use Rattle.tb_task.specs.declared.task.Task.{Task}
use Rattle.tb_todotxt.specs.Day.{start_of}
use Rattle.tb_todotxt.specs.Line.{spell}
use Rattle.tb_todotxt.specs.Tags.{in_order}
use Rattle.tb_todotxt.specs.Words.{body_words}
use Rattle.tb_todotxt.specs.declared.line.LineParts.{LineParts}
use Rattle.tb_todotxt.specs.declared.words.BodyWords.{BodyWords}

-- the first second of a day, else the moment
abbrev pub start_or : Option ℕ → ℕ → ℕ
start_or (Some day) m = start_of day
start_or None m = m

abbrev pub status_of : Bool → Status
status_of true = Completed
status_of false = Pending

-- a line that is done ended on its day, or at the moment
abbrev pub end_of : Bool → Option ℕ → ℕ → Option ℕ
end_of true day m = Some (start_or day m)
end_of false day m = None

-- A is high, B is medium, C is low; the other letters say nothing
-- Rule: (A), (B), (C) are H, M, L, and other letters are lost. Tried by todo_tasks.
abbrev pub priority_of : Option ℕ → Option Priority
priority_of None = None
priority_of (Some letter) =
    if letter == 65 then Some High
    else if letter == 66 then Some Medium
    else if letter == 67 then Some Low
    else None

-- where no word is left for the description, it is the body
abbrev pub filled_or : List ℕ → List ℕ → List ℕ
filled_or [] body = body
filled_or (b ∷ bs) body = b ∷ bs

-- the name of a line in its board's space: the line, a line feed, and how many equal lines came before it
-- Rule: equal lines of one import are tasks of their own. Tried by equal_todo_lines.
abbrev pub line_id : LineParts → ℕ → ℕ → ℕ
line_id l board occurrence = named_id (made board 0) (spell l ++ 10 ∷ decimal occurrence)

abbrev pub id_or : Option ℕ → ℕ → ℕ
id_or (Some id) other = id
id_or None other = other

-- the task of a line and of what its words say
abbrev pub task_with : LineParts → BodyWords → ℕ → ℕ → Task
task_with l said id m = record {
  id = id;
  status = status_of l.done;
  entry = start_or l.creation m;
  modified = Some m;
  start = None;
  end = end_of l.done l.completion m;
  due = option_map start_of said.due;
  wait = None;
  scheduled = None;
  until = None;
  description = filled_or said.description l.body;
  project = said.project;
  priority = priority_of l.priority;
  tags = in_order said.tags;
  annotations = [];
  depends = [];
  recur = None;
  parent = None;
  imask = None;
  extras = [];
}

-- the task of a line on a board at a moment, which is the line's occurrence of that number, from 0
abbrev pub task_of : LineParts → ℕ → ℕ → ℕ → Task
task_of l m board occurrence =
    let said = body_words l.body in
    task_with l said (id_or said.id (line_id l board occurrence)) m
