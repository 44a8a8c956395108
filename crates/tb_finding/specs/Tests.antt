-- What a task has to be to be found.
use Rattle.std.specs.Prelude.{ℕ, Bool, true, false, not, ◌&&◌, ◌||◌, ◌==◌, ◌+◌, nat_le, nat_lt, List, [], ◌∷◌, codes, Option, Some, None, if◌then◌else◌}
use Rattle.std.specs.Str.{bytes_eq}
use Rattle.tb_board.specs.Statuses.{is_pending_or_waiting}
use Rattle.tb_finding.specs.Board.{Text}
use Rattle.tb_my.specs.Days.{after_key}
use Rattle.tb_my.specs.Zone.{day_at, is_timed, today}
use Rattle.tb_my.specs.declared.query.Days.{Days}
use Rattle.tb_my.specs.declared.query.Query.{Query}
use Rattle.tb_my.specs.declared.query.Standing.{Standing}
use Rattle.tb_my.specs.declared.query.Standing.TheVariants as standing
use Rattle.tb_my.specs.declared.query.Test.{Test}
use Rattle.tb_my.specs.declared.query.Test.TheVariants as test
use Rattle.tb_my.specs.declared.query.Wanted.{Wanted}
use Rattle.tb_my.specs.declared.zone.Clock.{Clock}
use Rattle.tb_report.specs.Urgencies.{is_waiting_now}
use Rattle.tb_task.specs.declared.extra.Extra.{Extra}
use Rattle.tb_task.specs.declared.extra.ExtraValue.{ExtraValue}
use Rattle.tb_task.specs.declared.extra.ExtraValue.TheVariants as extra
use Rattle.tb_task.specs.declared.priority.Priority.{Priority}
use Rattle.tb_task.specs.declared.priority.Priority.TheVariants.{High, Medium, Low}
use Rattle.tb_task.specs.declared.status.Status.{Status}
use Rattle.tb_task.specs.declared.status.Status.TheVariants as status
use Rattle.tb_task.specs.declared.task.Annotation.{Annotation}
use Rattle.tb_task.specs.declared.task.Task.{Task}

-- ---- projects, tags and people

abbrev pub begins_with_dot : Option Text → Bool
begins_with_dot None = false
begins_with_dot (Some []) = false
begins_with_dot (Some (byte ∷ rest)) = byte == 46

-- the project itself or a part of it, as Home.garden of Home
abbrev pub is_within : Text → Text → Bool
is_within whole project =
    bytes_eq project whole || begins_with_dot (after_key whole project)

abbrev pub is_of_project : Text → Option Text → Bool
is_of_project whole None = bytes_eq whole []
is_of_project whole (Some project) = is_within whole project

abbrev pub has_text : Text → List Text → Bool
has_text text [] = false
has_text text (other ∷ texts) = bytes_eq text other || has_text text texts

abbrev pub text_of : ExtraValue → Text
text_of (extra.Text text) = text
text_of (extra.Whole number) = []
text_of (extra.Truth truth) = []
text_of extra.Null = []

-- who has a task: nobody where it is empty
abbrev pub assignee : List Extra → Text
assignee [] = []
assignee (e ∷ extras) =
    if bytes_eq e.name (codes "assignee") then text_of e.value else assignee extras

-- ---- days

abbrev pub is_in : Days → ℕ → Bool
is_in days day = nat_le days.first day && nat_le day days.last

abbrev pub is_on : Clock → Days → Option ℕ → Bool
is_on clock days None = false
is_on clock days (Some moment) = is_in days (day_at clock.shifts moment)

-- a day before today, or a time before now
abbrev pub is_past : Clock → ℕ → Bool
is_past clock moment = if is_timed clock.shifts moment then nat_lt moment clock.moment
    else nat_lt (day_at clock.shifts moment) (today clock)

abbrev pub is_overdue : Clock → Option ℕ → Bool
is_overdue clock None = false
is_overdue clock (Some due) = is_past clock due

-- ---- texts

-- A to Z as a to z
abbrev pub lowered : ℕ → ℕ
lowered byte = if nat_le 65 byte && nat_le byte 90 then byte + 32 else byte

abbrev pub begins : Text → Text → Bool
begins [] text = true
begins (byte ∷ part) [] = false
begins (byte ∷ part) (other ∷ text) = (lowered byte == lowered other) && begins part text

-- a part is somewhere in a text
abbrev pub contains : Text → Text → Bool
contains part [] = begins part []
contains part (byte ∷ text) = begins part (byte ∷ text) || contains part text

abbrev pub some_note_has : Text → List Annotation → Bool
some_note_has part [] = false
some_note_has part (note ∷ notes) = contains part note.description || some_note_has part notes

abbrev pub says : Text → Task → Bool
says part t = contains part t.description || some_note_has part t.annotations

-- ---- all tests

abbrev pub letter_of : Option Priority → Text
letter_of None = []
letter_of (Some High) = codes "H"
letter_of (Some Medium) = codes "M"
letter_of (Some Low) = codes "L"

-- of a task that is blocked or not
abbrev pub passes : Clock → Bool → Task → Test → Bool
passes clock blocked t (test.Project whole) = is_of_project whole t.project
passes clock blocked t (test.Tag tag) = has_text tag t.tags
passes clock blocked t (test.For name) = bytes_eq (assignee t.extras) name
passes clock blocked t (test.Priority letter) = bytes_eq (letter_of t.priority) letter
passes clock blocked t (test.Due days) = is_on clock days t.due
passes clock blocked t test.Overdue = is_overdue clock t.due
passes clock blocked t test.Blocked = blocked
passes clock blocked t test.Waiting = is_waiting_now t.status
passes clock blocked t (test.Done days) = is_on clock days t.end
passes clock blocked t (test.Says part) = says part t

-- it passes the test, or it doesn't
abbrev pub is_as_wanted : Clock → Bool → Task → Wanted → Bool
is_as_wanted clock blocked t wanted = if wanted.is_so then passes clock blocked t wanted.test
    else not (passes clock blocked t wanted.test)

abbrev pub passes_all : Clock → Bool → Task → List Wanted → Bool
passes_all clock blocked t [] = true
passes_all clock blocked t (wanted ∷ tests) =
    is_as_wanted clock blocked t wanted && passes_all clock blocked t tests

abbrev pub is_pending : Status → Bool
is_pending status.Pending = true
is_pending other = false

abbrev pub is_waiting : Status → Bool
is_waiting status.Waiting = true
is_waiting other = false

abbrev pub is_recurring : Status → Bool
is_recurring status.Recurring = true
is_recurring other = false

abbrev pub is_completed : Status → Bool
is_completed status.Completed = true
is_completed other = false

abbrev pub is_deleted : Status → Bool
is_deleted status.Deleted = true
is_deleted other = false

-- pending and waiting tasks, or those of another status, or all
abbrev pub has_standing : Standing → Status → Bool
has_standing standing.Open s = is_pending_or_waiting s
has_standing standing.Pending s = is_pending s
has_standing standing.Waiting s = is_waiting s
has_standing standing.Recurring s = is_recurring s
has_standing standing.Completed s = is_completed s
has_standing standing.Deleted s = is_deleted s
has_standing standing.Any s = true

-- Rule: `tb list` shows the tasks that pass each of its words. Tried by my.sh.
abbrev pub is_found : Clock → Query → Bool → Task → Bool
is_found clock query blocked t =
    has_standing query.standing t.status && passes_all clock blocked t query.tests
