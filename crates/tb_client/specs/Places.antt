-- Tasks by their places on a board, in the order in which the board is exported, from 1.
use Rattle.std.specs.Prelude.{ℕ, pred, Bool, List, [], ◌∷◌, ◌++◌, ◌==◌, nat_lt, length, codes, slice_get, Option, Some, None, option_map, option_and_then, unwrap_or, if◌then◌else◌}
use Rattle.serde_json.specs.Data.{Data, null, boolean, number, string, array, object, Items, no_items, item}
use Rattle.serde_json.specs.Find.{as_str, get}
use Rattle.serde_json.specs.Read.{read}
use Rattle.tb_task.specs.TaskId.{id_text, read_id}
use Rattle.tb_values.specs.Numerals.{number_to}
use Rattle.tb_calls.specs.Word.{word_named}
use Rattle.tb_calls.specs.declared.word.Word.{Word}
use Rattle.tb_calls.specs.declared.word.Word.TheVariants as word
use Rattle.tb_client.specs.Answer.{text_in}
use Rattle.tb_client.specs.Request.{Text, board_target, view_at}
use Rattle.tb_client.specs.declared.places.BoardTask.{BoardTask}
use Rattle.tb_client.specs.declared.request.Request.{Request}

-- ---- the words that hold places

-- behind the board stands one task and nothing else, one task and a text, or two tasks
abbrev pub one_task : ℕ → ℕ
one_task size = if size == 1 then 1 else 0

abbrev pub task_and_text : ℕ → ℕ
task_and_text size = if size == 2 then 1 else 0

abbrev pub two_tasks : ℕ → ℕ
two_tasks size = if size == 2 then 2 else 0

-- how many of so many arguments behind the board are tasks
abbrev pub task_count : Word → ℕ → ℕ
task_count word.List size = 0
task_count word.Export size = 0
task_count word.Todo size = 0
task_count word.Task size = one_task size
task_count word.Add size = 0
task_count word.Import size = 0
task_count word.ImportTodo size = 0
task_count word.Done size = one_task size
task_count word.Delete size = one_task size
task_count word.Reopen size = one_task size
task_count word.Start size = one_task size
task_count word.Stop size = one_task size
task_count word.Annotate size = task_and_text size
task_count word.Denotate size = task_and_text size
task_count word.Modify size = task_and_text size
task_count word.Depend size = two_tasks size
task_count word.Undepend size = two_tasks size
task_count word.Sweep size = 0
task_count word.Ahead size = 0
task_count word.Person size = 0
task_count word.Board size = 0
task_count word.Role size = 0
task_count word.OwnKey size = 0
task_count word.Key size = 0
task_count word.Take size = 0
task_count word.Title size = 0
task_count word.People size = 0
task_count word.History size = 0
task_count word.HistoryOf size = one_task size
task_count word.Me size = 0

-- the same by the word's name, of which none is no word
abbrev pub named_count : Text → ℕ → ℕ
named_count name size = unwrap_or (option_map (λ word. task_count word size) (word_named name)) 0

-- the place that an argument is, if it is one: a number from 1, without a zero in front
abbrev pub place_in : Text → Option ℕ
place_in argument = number_to 4294967295 argument

abbrev pub with_place : List ℕ → Option ℕ → List ℕ
with_place places None = places
with_place places (Some place) = places ++ place ∷ []

abbrev pub with_argument : List ℕ → Bool → Text → List ℕ
with_argument places is_task argument = if is_task
    then with_place places (place_in argument) else places

-- some places, and those among arguments of which so many are tasks
abbrev pub with_arguments : List ℕ → ℕ → List Text → List ℕ
with_arguments places left [] = places
with_arguments places left (argument ∷ more) =
    with_arguments (with_argument places (nat_lt 0 left) argument) (pred left) more

-- the places among the words
abbrev pub places_of : List Text → List ℕ
places_of [] = []
places_of (word ∷ []) = []
places_of (word ∷ board ∷ arguments) =
    with_arguments [] (named_count word (length arguments)) arguments

-- ---- the tasks of a board

-- what is asked for first: all tasks of the board behind the word
abbrev pub export_of : List Text → Option Request
export_of [] = None
export_of (word ∷ []) = None
export_of (word ∷ board ∷ arguments) = option_map view_at (board_target board (codes "/export"))

abbrev pub described : Option Text → ℕ → Option BoardTask
described None id = None
described (Some description) id = Some (record { id = id; description = description })

abbrev pub board_task : Data → Option BoardTask
board_task task =
    option_and_then (described (option_and_then as_str (get (codes "description") task)))
    (option_and_then read_id (option_and_then as_str (get (codes "uuid") task)))

-- the tasks of an array behind those found
abbrev pub with_tasks : List BoardTask → Items → Option (List BoardTask)
with_tasks found no_items = Some found
with_tasks found (item task more) =
    option_and_then (λ it. with_tasks (found ++ it ∷ []) more) (board_task task)

abbrev pub board_tasks : Data → Option (List BoardTask)
board_tasks null = None
board_tasks (boolean b) = None
board_tasks (number n) = None
board_tasks (string s) = None
board_tasks (array them) = with_tasks [] them
board_tasks (object them) = None

-- the tasks of the body of an export, if it is one
abbrev pub tasks_in : List ℕ → Option (List BoardTask)
tasks_in body = option_and_then board_tasks (option_and_then read (text_in body))

-- the task of a place, from 1
-- Rule: a place among send's words is a task, counted from 1. Refused as NoTask. Tried by clients.
abbrev pub task_at : List BoardTask → ℕ → Option BoardTask
task_at tasks place = slice_get tasks (pred place)

-- ---- the words with tasks in place of places

abbrev pub named_place : List BoardTask → Text → Option ℕ → Option Text
named_place tasks argument None = Some argument
named_place tasks argument (Some place) = option_map (λ task. id_text task.id) (task_at tasks place)

-- an argument, where it is a place the identifier of its task; none where the board has no such task
abbrev pub named_argument : List BoardTask → Bool → Text → Option Text
named_argument tasks is_task argument =
    if is_task then named_place tasks argument (place_in argument) else Some argument

-- some words, and arguments of which so many are tasks
abbrev pub with_named : List BoardTask → List Text → ℕ → List Text → Option (List Text)
with_named tasks words left [] = Some words
with_named tasks words left (argument ∷ more) =
    option_and_then (λ named. with_named tasks (words ++ named ∷ []) (pred left) more)
    (named_argument tasks (nat_lt 0 left) argument)

-- the words, with the identifiers of the board's tasks in place of their places
abbrev pub named_words : List BoardTask → List Text → Option (List Text)
named_words tasks [] = Some []
named_words tasks (word ∷ []) = Some (word ∷ [])
named_words tasks (word ∷ board ∷ arguments) =
    with_named tasks (word ∷ board ∷ []) (named_count word (length arguments)) arguments
