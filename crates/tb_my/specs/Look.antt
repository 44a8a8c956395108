-- The tasks of a board, as a look at it showed them.
use Rattle.std.specs.Prelude.{ℕ, pred, ◌==◌, List, [], ◌∷◌, ◌++◌, codes, slice_get, Option, Some, None, option_and_then, if◌then◌else◌}
use Rattle.serde_json.specs.Data.{Data, null, boolean, number, string, array, object, Items, no_items, item}
use Rattle.serde_json.specs.Find.{as_str, get}
use Rattle.serde_json.specs.Read.{read}
use Rattle.tb_my.specs.Days.{Text}
use Rattle.tb_my.specs.Old.{old_of}
use Rattle.tb_my.specs.declared.look.Seen.{Seen}
use Rattle.tb_task.specs.TaskId.{read_id}
use Rattle.tb_values.specs.Numerals.{number_to}

-- ---- the tasks of an export

abbrev pub with_text : List Text → Option Text → List Text
with_text texts None = texts
with_text texts (Some text) = texts ++ text ∷ []

abbrev pub with_texts : List Text → Items → List Text
with_texts texts no_items = texts
with_texts texts (item one more) = with_texts (with_text texts (as_str one)) more

abbrev pub texts_of : Data → List Text
texts_of null = []
texts_of (boolean b) = []
texts_of (number n) = []
texts_of (string s) = []
texts_of (array them) = with_texts [] them
texts_of (object them) = []

abbrev pub texts_in : Option Data → List Text
texts_in None = []
texts_in (Some member) = texts_of member

abbrev pub seen_texts : Text → Data → List Text
seen_texts name task = texts_in (get name task)

abbrev pub described : Data → Option Text → ℕ → Option Seen
described task None id = None
described task (Some description) id = Some (record {
  id = id;
  description = description;
  tags = seen_texts (codes "tags") task;
  needs = seen_texts (codes "depends") task;
  old = old_of task;
})

abbrev pub seen_task : Data → Option Seen
seen_task task =
    option_and_then
    (described task (option_and_then as_str (get (codes "description") task)))
    (option_and_then read_id (option_and_then as_str (get (codes "uuid") task)))

-- the tasks of an array behind those seen
abbrev pub with_seen : List Seen → Items → Option (List Seen)
with_seen seen no_items = Some seen
with_seen seen (item task more) =
    option_and_then (λ it. with_seen (seen ++ it ∷ []) more) (seen_task task)

abbrev pub seen_of : Data → Option (List Seen)
seen_of null = None
seen_of (boolean b) = None
seen_of (number n) = None
seen_of (string s) = None
seen_of (array them) = with_seen [] them
seen_of (object them) = None

abbrev pub seen_in : Text → Option (List Seen)
seen_in text = option_and_then seen_of (read text)

-- ---- the task that a word names

abbrev pub find_id : ℕ → List Seen → Option Seen
find_id id [] = None
find_id id (task ∷ tasks) = if task.id == id then Some task else find_id id tasks

abbrev pub task_for : List Seen → Text → Option ℕ → Option Seen
task_for tasks word (Some place) = slice_get tasks (pred place)
task_for tasks word None = option_and_then (λ id. find_id id tasks) (read_id word)

-- by its place, from 1, or by its uuid
-- Rule: a number among the words of `my` is a place on the board, counted from 1. Tried by my.sh.
abbrev pub task_named : List Seen → Text → Option Seen
task_named tasks word = task_for tasks word (number_to 4294967295 word)
