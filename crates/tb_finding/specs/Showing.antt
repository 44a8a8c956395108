-- One task in lines.
use Rattle.std.specs.Prelude.{ℕ, ℤ, ◌+◌, ◌==◌, List, [], ◌∷◌, ◌++◌, codes, decimal, Option, Some, None, option_and_then, option_map, unsigned_abs, unwrap_or, if◌then◌else◌}
use Rattle.std.specs.Str.{bytes_eq}
use Rattle.serde_json.specs.Read.{read}
use Rattle.tb_finding.specs.Board.{Text, task_in}
use Rattle.tb_finding.specs.Cells.{moment_cell, tag_words}
use Rattle.tb_finding.specs.Json.{truth}
use Rattle.tb_finding.specs.Tests.{assignee, letter_of}
use Rattle.tb_finding.specs.Words.{moment_word}
use Rattle.tb_my.specs.Days.{after_key}
use Rattle.tb_my.specs.Telling.{shown_text}
use Rattle.tb_my.specs.declared.look.Seen.{Seen}
use Rattle.tb_my.specs.declared.zone.Clock.{Clock}
use Rattle.tb_report.specs.Row.{is_negative}
use Rattle.tb_task.specs.Status.{status_word}
use Rattle.tb_task.specs.TaskId.{id_text}
use Rattle.tb_task.specs.declared.extra.Extra.{Extra}
use Rattle.tb_task.specs.declared.extra.ExtraValue.{ExtraValue}
use Rattle.tb_task.specs.declared.extra.ExtraValue.TheVariants as extra
use Rattle.tb_task.specs.declared.task.Annotation.{Annotation}
use Rattle.tb_task.specs.declared.task.Task.{Task}

-- a line of what a task has: none of what it hasn't
abbrev pub field : Text → Text → Text
field name [] = []
field name (byte ∷ value) = codes "  " ++ (name ++ (codes "  " ++ ((byte ∷ value) ++ 10 ∷ [])))

-- without the space in front
abbrev pub unspaced : Text → Text
unspaced text = unwrap_or (after_key (codes " ") text) text

abbrev pub text_or_none : Option Text → Text
text_or_none None = []
text_or_none (Some text) = shown_text text

-- ---- the tasks on which it depends

-- the number and the description of the first task of an identifier, from a place on
abbrev pub named_from : ℕ → ℕ → List Seen → Text
named_from id place [] = id_text id
named_from id place (seen ∷ tasks) = if seen.id == id
    then decimal (place + 1) ++ 32 ∷ shown_text seen.description
    else named_from id (place + 1) tasks

abbrev pub need_lines : List Seen → List ℕ → Text
need_lines tasks [] = []
need_lines tasks (id ∷ ids) =
    field (codes "needs    ") (named_from id 0 tasks) ++ need_lines tasks ids

-- the place of a task among these, counted from 1
abbrev pub number_from : ℕ → ℕ → List Seen → Text
number_from id place [] = []
number_from id place (seen ∷ tasks) = if seen.id == id then decimal (place + 1)
    else number_from id (place + 1) tasks

-- ---- notes, and attributes of one's own

abbrev pub note_lines : Clock → List Annotation → Text
note_lines clock [] = []
note_lines clock (note ∷ notes) =
    field (codes "note     ")
    (moment_word clock note.entry ++ (codes ": " ++ shown_text note.description))
    ++ note_lines clock notes

abbrev pub int_text : ℤ → Text
int_text z = (if is_negative z then 45 ∷ [] else []) ++ decimal (unsigned_abs z)

abbrev pub value_text : ExtraValue → Text
value_text (extra.Text text) = shown_text text
value_text (extra.Whole number) = int_text number
value_text (extra.Truth is_so) = truth is_so
value_text extra.Null = []

abbrev pub own_line : Text → ExtraValue → Text
own_line name value = if bytes_eq name (codes "assignee") then []
    else field (shown_text name) (value_text value)

abbrev pub own_lines : List Extra → Text
own_lines [] = []
own_lines (e ∷ extras) = own_line e.name e.value ++ own_lines extras

-- ---- all lines

abbrev pub plan_lines : Clock → Task → Text
plan_lines clock t =
    field (codes "status   ") (status_word t.status)
    ++ (field (codes "due      ") (moment_cell clock t.due)
    ++ (field (codes "waits for") (moment_cell clock t.wait)
    ++ field (codes "scheduled") (moment_cell clock t.scheduled)))

abbrev pub repeat_lines : Clock → Task → Text
repeat_lines clock t =
    field (codes "until    ") (moment_cell clock t.until)
    ++ field (codes "repeats  ") (text_or_none t.recur)

abbrev pub course_lines : Clock → Task → Text
course_lines clock t =
    field (codes "begun    ") (moment_cell clock t.start)
    ++ (field (codes "closed   ") (moment_cell clock t.end)
    ++ (field (codes "added    ") (moment_cell clock (Some t.entry))
    ++ field (codes "changed  ") (moment_cell clock t.modified)))

abbrev pub state_lines : Clock → Task → Text
state_lines clock t = plan_lines clock t ++ (repeat_lines clock t ++ course_lines clock t)

abbrev pub kind_lines : Task → Text
kind_lines t =
    field (codes "priority ") (letter_of t.priority)
    ++ (field (codes "project  ") (text_or_none t.project)
    ++ (field (codes "tags     ") (unspaced (tag_words t.tags))
    ++ field (codes "for      ") (shown_text (assignee t.extras))))

abbrev pub show_of : Clock → List Seen → Task → Text
show_of clock tasks t =
    shown_text t.description ++ 10
    ∷ (field (codes "number   ") (number_from t.id 0 tasks)
    ++ (kind_lines t
    ++ (state_lines clock t
    ++ (need_lines tasks t.depends
    ++ (note_lines clock t.annotations
    ++ (own_lines t.extras ++ field (codes "uuid     ") (id_text t.id)))))))

-- of the answer of `task`, if it is a task
abbrev pub show_text : Clock → List Seen → Text → Option Text
show_text clock tasks body = option_map (show_of clock tasks)
    (option_and_then (task_in clock.moment) (read body))
