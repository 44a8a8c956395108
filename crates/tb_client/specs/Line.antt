-- The task that a line of todo.txt is sent as: what the line says, and nothing else.
use Rattle.std.specs.Prelude.{ℕ, Bool, true, false, List, [], ◌∷◌, ◌++◌, ◌==◌, codes, Option, Some, None, option_map, Result, Ok, Err, if◌then◌else◌}
use Rattle.serde_json.specs.Data.{Data, string, object, Members, no_members}
use Rattle.serde_json.specs.Written.{compact_text}
use Rattle.tb_json.specs.Writing.{Field, with_fields, moment_data, id_data, priority_data, status_data, texts_data}
use Rattle.tb_task.specs.declared.task.Task.{Task}
use Rattle.tb_todotxt.specs.Day.{start_of}
use Rattle.tb_todotxt.specs.Line.{is_free_of}
use Rattle.tb_todotxt.specs.Reading.{read_of}
use Rattle.tb_todotxt.specs.Making.{task_of}
use Rattle.tb_todotxt.specs.Words.{id_in, words_of}
use Rattle.tb_todotxt.specs.declared.fault.LineFault.{LineFault}
use Rattle.tb_todotxt.specs.declared.line.LineParts.{LineParts}

-- ---- the words of the line

-- a space before each word
abbrev pub spaced_after : List (List ℕ) → List ℕ
spaced_after [] = []
spaced_after (word ∷ words) = 32 ∷ (word ++ spaced_after words)

-- the words with a space between each two
abbrev pub spaced : List (List ℕ) → List ℕ
spaced [] = []
spaced (word ∷ words) = word ++ spaced_after words

-- it begins with `{`
abbrev pub is_object : List ℕ → Bool
is_object [] = false
is_object (byte ∷ bytes) = byte == 123

-- one word, which is the JSON of a task
abbrev pub is_object_alone : List (List ℕ) → Bool
is_object_alone [] = false
is_object_alone (word ∷ []) = is_object word
is_object_alone (a ∷ b ∷ more) = false

-- ---- the attributes

abbrev pub id_or : Option ℕ → Option ℕ → Option ℕ
id_or None other = other
id_or (Some id) other = Some id

-- the identifier of the first word that is `uuid:` with one behind it
abbrev pub id_among : List (List ℕ) → Option ℕ
id_among [] = None
id_among (word ∷ words) = id_or (id_in word) (id_among words)

abbrev pub given_id : List ℕ → Option ℕ
given_id body = id_among (words_of body)

-- a line says of its status that it is done, or nothing
abbrev pub status_said : Task → Bool → Option Data
status_said task true = Some (status_data task.status)
status_said task false = None

-- the attributes from `description` to `priority`
abbrev pub early_fields : LineParts → Task → List Field
early_fields line task =
    (codes "description", Some (string task.description))
    ∷ (codes "due", option_map moment_data task.due)
    ∷ (codes "end", option_map moment_data (option_map start_of line.completion))
    ∷ (codes "entry", option_map moment_data (option_map start_of line.creation))
    ∷ (codes "priority", option_map priority_data task.priority)
    ∷ []

-- the attributes from `project` to `uuid`
abbrev pub late_fields : LineParts → Task → List Field
late_fields line task =
    (codes "project", option_map string task.project)
    ∷ (codes "status", status_said task line.done)
    ∷ (codes "tags", texts_data task.tags)
    ∷ (codes "uuid", option_map id_data (given_id line.body))
    ∷ []

unfoldable pub line_members : LineParts → Task → Members
line_members line task =
    with_fields (late_fields line task) (with_fields (early_fields line task) no_members)

-- the task that an import makes of the line, without what comes of the moment and the board of the import
abbrev pub line_data : LineParts → Data
line_data line = object (line_members line (task_of line 0 1 0))

abbrev pub said_by : Result LineParts LineFault → Option (List ℕ)
said_by (Ok line) = Some (compact_text (line_data line))
said_by (Err fault) = None

-- the JSON of the task that a text says as a line
abbrev pub line_body : List ℕ → Option (List ℕ)
line_body text = if is_free_of 10 text then said_by (read_of text) else None

-- the body of a new task: the JSON as it is, or that of the line that the words are
abbrev pub add_body : List (List ℕ) → Option (List ℕ)
add_body words = if is_object_alone words then Some (spaced words) else line_body (spaced words)
