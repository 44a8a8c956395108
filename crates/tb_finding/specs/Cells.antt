-- What a line of the list shows of a task.
use Rattle.std.specs.Prelude.{ℕ, ◌+◌, Bool, true, false, is_some, List, [], ◌∷◌, ◌++◌, codes, decimal, Option, Some, None, if◌then◌else◌}
use Rattle.tb_finding.specs.Board.{Text}
use Rattle.tb_finding.specs.Table.{fitted}
use Rattle.tb_finding.specs.Tests.{assignee, is_overdue, letter_of}
use Rattle.tb_finding.specs.Words.{moment_word}
use Rattle.tb_finding.specs.declared.look.Look.{Look}
use Rattle.tb_finding.specs.declared.table.Cells.{Cells}
use Rattle.tb_finding.specs.declared.table.Style.{Style}
use Rattle.tb_graph.specs.Marks.{is_marked}
use Rattle.tb_my.specs.Telling.{shown_text}
use Rattle.tb_my.specs.declared.zone.Clock.{Clock}
use Rattle.tb_report.specs.Urgencies.{is_waiting_now}
use Rattle.tb_task.specs.declared.task.Task.{Task}

-- waiting, or work has begun
abbrev pub standing : Task → Text
standing t = if is_waiting_now t.status then codes "W" else if is_some t.start then codes "*" else []

abbrev pub mark_if : Bool → Text → Text
mark_if true mark = mark
mark_if false mark = []

-- the priority, W or *, b where it is blocked, k where it blocks another
abbrev pub marks : Bool → Bool → Task → Text
marks blocked blocking t =
    letter_of t.priority
    ++ (standing t ++ (mark_if blocked (codes "b") ++ mark_if blocking (codes "k")))

abbrev pub moment_cell : Clock → Option ℕ → Text
moment_cell clock None = []
moment_cell clock (Some moment) = moment_word clock moment

-- on a terminal a project and a name take up to 20 columns
abbrev pub short_room : Option ℕ → Option ℕ
short_room None = None
short_room (Some columns) = Some 20

abbrev pub project_cell : Option ℕ → Option Text → Text
project_cell room None = []
project_cell room (Some project) = fitted room (shown_text project)

abbrev pub tag_words : List Text → Text
tag_words [] = []
tag_words (tag ∷ tags) = codes " @" ++ (shown_text tag ++ tag_words tags)

abbrev pub what_of : Task → Text
what_of t = shown_text t.description ++ tag_words t.tags

abbrev pub cells_of : Clock → Style → Look → ℕ → Task → Cells
cells_of clock style look place t = record {
  number = decimal (place + 1);
  marks = marks (is_marked look.blocked place) (is_marked look.blocking place) t;
  due = moment_cell clock t.due;
  project = project_cell (short_room style.columns) t.project;
  person = fitted (short_room style.columns) (shown_text (assignee t.extras));
  what = what_of t;
  is_late = is_overdue clock t.due;
}
