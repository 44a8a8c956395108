-- The tasks that words name: by places, counted from 1, by ranges of them, and by uuids.
use Rattle.std.specs.Prelude.{ℕ, ◌+◌, ◌-◌, ◌==◌, Bool, true, false, ◌&&◌, ◌||◌, nat_lt, is_some, List, [], ◌∷◌, ◌++◌, codes, length, take, drop, Option, Some, None, Result, Ok, Err, if◌then◌else◌}
use Rattle.std.specs.List.{list_any}
use Rattle.std.specs.Path.{rsplit_once}
use Rattle.tb_my.specs.Days.{Text, after_key}
use Rattle.tb_my.specs.Look.{task_named}
use Rattle.tb_my.specs.Outcome.{or_fault}
use Rattle.tb_my.specs.Splitting.{parts_of}
use Rattle.tb_my.specs.declared.fault.MyFault.{MyFault}
use Rattle.tb_my.specs.declared.fault.MyFault.TheVariants.{NoOption, NoPlace, NoTask}
use Rattle.tb_my.specs.declared.look.Seen.{Seen}
use Rattle.tb_task.specs.TaskId.{read_id}
use Rattle.tb_values.specs.Numerals.{number_to}
use Rattle.tb_values.specs.Outcome.{◌>>=◌}

abbrev pub place_of : Text → Option ℕ
place_of word = number_to 4294967295 word

-- the tasks from a place to another, which the board has
abbrev pub tasks_from : List Seen → Option ℕ → Option ℕ → Option (List Seen)
tasks_from tasks None last = None
tasks_from tasks (Some first) None = None
tasks_from tasks (Some first) (Some last) =
    if first == 0 || (nat_lt last first || nat_lt (length tasks) last) then None
    else Some (take (last - (first - 1)) (drop (first - 1) tasks))

abbrev pub range_of : List Seen → Option (Text × Text) → Option (List Seen)
range_of tasks None = None
range_of tasks (Some ends) = tasks_from tasks (place_of ends.0) (place_of ends.1)

abbrev pub range_named : List Seen → Text → Option (List Seen)
range_named tasks part = range_of tasks (rsplit_once 45 part)

abbrev pub run_or : Option Seen → Option (List Seen) → Option (List Seen)
run_or (Some task) other = Some (task ∷ [])
run_or None other = other

-- of a place, of a uuid, or of a range
abbrev pub run_named : List Seen → Text → Option (List Seen)
run_named tasks part = run_or (task_named tasks part) (range_named tasks part)

-- a word that isn't the first may be one of a text
abbrev pub lacking : Bool → Text → MyFault
lacking true word = NoPlace word
lacking false word = NoTask word

abbrev pub has_task : ℕ → List Seen → Bool
has_task id tasks = list_any (λ task. task.id == id) tasks

-- Rule: a task that is named twice is changed once. Tried by my.sh.
abbrev pub with_new : List Seen → List Seen → List Seen
with_new named [] = named
with_new named (task ∷ run) =
    with_new (if has_task task.id named then named else named ++ task ∷ []) run

abbrev pub with_parts : List Seen → Bool → List Seen → Text → List Text
    → Result (List Seen) MyFault
with_parts tasks is_further named word [] = Ok named
with_parts tasks is_further named word (part ∷ parts) = do
  run ← or_fault (lacking is_further word) (run_named tasks part)
  with_parts tasks is_further (with_new named run) word parts

abbrev pub with_named : List Seen → Bool → List Seen → Text → Result (List Seen) MyFault
with_named tasks is_further named word =
    if is_some (after_key (codes "--") word) then Err (NoOption word)
    else with_parts tasks is_further named word (parts_of word)

-- the tasks that words name, after others, up to the first that isn't there
-- Rule: `3-8` and `3,5` name several tasks. Tried by my.sh.
abbrev pub tasks_named : List Seen → Bool → List Seen → List Text → Result (List Seen) MyFault
tasks_named tasks is_further named [] = Ok named
tasks_named tasks is_further named (word ∷ words) = do
  more ← with_named tasks is_further named word
  tasks_named tasks is_further more words

-- ---- words that look so

abbrev pub is_range_of : Option (Text × Text) → Bool
is_range_of None = false
is_range_of (Some ends) = is_some (place_of ends.0) && is_some (place_of ends.1)

abbrev pub is_range : Text → Bool
is_range part = is_range_of (rsplit_once 45 part)

abbrev pub is_place_part : Text → Bool
is_place_part part = is_some (place_of part) || (is_some (read_id part) || is_range part)

abbrev pub are_places : List Text → Bool
are_places [] = true
are_places (part ∷ parts) = is_place_part part && are_places parts

abbrev pub is_place : Text → Bool
is_place word = are_places (parts_of word)

-- how many words at the front do
abbrev pub count_places : List Text → ℕ
count_places [] = 0
count_places (word ∷ words) = if is_place word then count_places words + 1 else 0

-- why a word names no task
abbrev pub unnamed : Text → MyFault
unnamed word = if is_some (after_key (codes "--") word) then NoOption word else NoTask word

-- the tasks that the first word and further ones at the front name
abbrev pub named_at_front : List Seen → Text → List Text → Result (List Seen) MyFault
named_at_front tasks first further = do
  named ← with_named tasks false [] first
  tasks_named tasks true named further
