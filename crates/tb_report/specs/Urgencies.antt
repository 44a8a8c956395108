-- The urgency of a task at a moment, in parts of which 110376000 make one unit: then each term is a whole number of parts.
use Rattle.std.specs.Prelude.{ℕ, ℤ, pos, ◌-ℤ◌, Bool, true, false, List, ◌+◌, ◌-◌, ◌*◌, min, Option, Some, None, codes, length, nat_lt, slice_get, if◌then◌else◌}
use Rattle.std.specs.List.{list_any}
use Rattle.std.specs.Option.{option_map}
use Rattle.std.specs.Str.{bytes_eq}
use Rattle.tb_task.specs.declared.priority.Priority.{Priority}
use Rattle.tb_task.specs.declared.priority.Priority.TheVariants.{High, Medium, Low}
use Rattle.tb_task.specs.declared.status.Status.{Status}
use Rattle.tb_task.specs.declared.status.Status.TheVariants.{Pending, Waiting, Recurring, Completed, Deleted}
use Rattle.tb_task.specs.declared.task.Task.{Task}
use Rattle.tb_graph.specs.Marks.{is_marked}
use Rattle.tb_board.specs.declared.board.Board.{Board}
use Rattle.tb_board.specs.Blocked.{blocked, blocking}
use Rattle.tb_board.specs.Board.{wake}
use Rattle.tb_report.specs.Row.{unit}

-- so many parts, if something is so
abbrev pub parts_if : Bool → ℕ → ℕ
parts_if true parts = parts
parts_if false parts = 0

abbrev pub parts_if_some : {A : Type 0} → Option A → ℕ → ℕ
parts_if_some None parts = 0
parts_if_some (Some x) parts = parts

-- the tag `next`
abbrev pub is_next : List ℕ → Bool
is_next tag = bytes_eq tag (codes "next")

abbrev pub next_parts : List (List ℕ) → ℕ
next_parts tags = parts_if (list_any is_next tags) (15 * unit)

-- 2.4 units until 14 days before the due date, then 584 parts a second more, up to 12 units 7 days after it
abbrev pub due_parts : ℕ → Option ℕ → ℕ
due_parts m None = 0
due_parts m (Some due) = min 1814400 ((m + 1209600) - due) * 584 + 264902400

-- 6, 3.9 or 1.8 units
abbrev pub priority_parts : Option Priority → ℕ
priority_parts None = 0
priority_parts (Some High) = 6 * unit
priority_parts (Some Medium) = 430466400
priority_parts (Some Low) = 198676800

abbrev pub scheduled_parts : ℕ → Option ℕ → ℕ
scheduled_parts m None = 0
scheduled_parts m (Some scheduled) = parts_if (nat_lt scheduled m) (5 * unit)

-- 7 parts for each second since its entry: 2 units, the most, after 365 days
abbrev pub age_parts : ℕ → ℕ → ℕ
age_parts m entry = min (2 * unit) (7 * (m - entry))

-- of annotations, and of tags: 0.8 units for one, 0.9 for two, 1 for more
abbrev pub count_parts : ℕ → ℕ
count_parts n = if nat_lt n 1 then 0 else if nat_lt n 2 then 88300800 else if nat_lt n 3
    then 99338400 else unit

abbrev pub is_waiting_now : Status → Bool
is_waiting_now Pending = false
is_waiting_now Waiting = true
is_waiting_now Recurring = false
is_waiting_now Completed = false
is_waiting_now Deleted = false

-- what a task gains by its own attributes
unfoldable pub own_parts : ℕ → Task → ℕ
own_parts m t =
    next_parts t.tags
    + due_parts m t.due
    + priority_parts t.priority
    + scheduled_parts m t.scheduled
    + parts_if_some t.start (4 * unit)
    + age_parts m t.entry
    + count_parts (length t.annotations)
    + count_parts (length t.tags)
    + parts_if_some t.project unit

-- the sum of all terms, of a task that is blocked or blocking or not
unfoldable pub urgency_of : Bool → Bool → ℕ → Task → ℤ
urgency_of blocked blocking m t =
    pos (own_parts m t + parts_if blocking (8 * unit)) -ℤ pos
    (parts_if (is_waiting_now t.status) (3 * unit) + parts_if blocked (5 * unit))

-- that of a task of a board that is awake, by its place from 0
abbrev pub urgency_awake : Board → ℕ → ℕ → Task → ℤ
urgency_awake b m place t =
    urgency_of (is_marked (blocked b) place) (is_marked (blocking b) place) m t

-- that of the task of the woken board at a place, counted from 1
-- Rule: urgency is cut after three decimals, and not term by term. Tried by urgencies.
abbrev pub urgency_at : Board → ℕ → ℕ → Option ℤ
urgency_at b m place =
    option_map (urgency_awake (wake b m) m (place - 1)) (slice_get (wake b m).tasks (place - 1))
