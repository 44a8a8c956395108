-- The line that shows a task.
use Rattle.std.specs.Prelude.{ℕ, ◌/◌, ◌==◌, ◌||◌, Bool, true, false, nat_le, if◌then◌else◌, List, [], ◌∷◌, ◌++◌, map, Option, Some, None, unwrap_or, option_map, codes}
use Rattle.std.specs.Str.{chars, encode_utf8_all}
use Rattle.tb_task.specs.TaskId.{id_text}
use Rattle.tb_task.specs.declared.status.Status.{Status}
use Rattle.tb_task.specs.declared.status.Status.TheVariants.{Pending, Waiting, Recurring, Completed, Deleted}
use Rattle.tb_task.specs.declared.task.Task.{Task}
use Rattle.tb_todotxt.specs.Day.{day_text}
use Rattle.tb_todotxt.specs.Letter.{letter_for}
use Rattle.tb_todotxt.specs.declared.line.LineParts.{LineParts}

-- a space, a control character below it, and U+007F are shown as another character
abbrev pub shown_char : ℕ → ℕ → ℕ
shown_char instead c = if nat_le c 32 || (c == 127) then instead else c

unfoldable pub shown_text : ℕ → List ℕ → List ℕ
shown_text instead text = encode_utf8_all (map (shown_char instead) (chars text))

-- ` +project`, with `_` for each space and control character
abbrev pub project_text : Option (List ℕ) → List ℕ
project_text None = []
project_text (Some project) = codes " +" ++ shown_text 95 project

-- ` @tag` for each
abbrev pub tags_text : List (List ℕ) → List ℕ
tags_text [] = []
tags_text (tag ∷ tags) = codes " @" ++ tag ++ tags_text tags

-- ` due:` and the day
abbrev pub due_text : Option ℕ → List ℕ
due_text None = []
due_text (Some due) = codes " due:" ++ day_text (due / 86400)

-- the body of a task's line, with a space for each control character of the description
abbrev pub body_of : Task → List ℕ
body_of t = shown_text 32 t.description ++ project_text t.project ++ tags_text t.tags
    ++ due_text t.due ++ codes " uuid:" ++ id_text t.id

-- where the task is done, the day of its end, or of its entry where it has none
abbrev pub completion_of : Bool → Task → Option ℕ
completion_of false t = None
completion_of true t = Some (unwrap_or t.end t.entry / 86400)

abbrev pub parts_of : Bool → Task → LineParts
parts_of done t = record {
  done = done;
  priority = option_map letter_for t.priority;
  completion = completion_of done t;
  creation = Some (t.entry / 86400);
  body = body_of t;
}

-- Rule: pending, waiting and completed tasks have lines. Tried by todo_out.
abbrev pub line_for_status : Status → Task → Option LineParts
line_for_status Pending t = Some (parts_of false t)
line_for_status Waiting t = Some (parts_of false t)
line_for_status Completed t = Some (parts_of true t)
line_for_status Recurring t = None
line_for_status Deleted t = None

-- a pending, waiting or completed task has a line
abbrev pub line_for : Task → Option LineParts
line_for t = line_for_status t.status t
