-- What the bodies that hold tasks say.
use Rattle.std.specs.Prelude.{ℕ, List, Option, Some, None, Result, Ok, Err, if◌then◌else◌}
use Rattle.std.specs.Str.{is_utf8}
use Rattle.serde_json.specs.Data.{Data}
use Rattle.serde_json.specs.Read.{read}
use Rattle.tb_task.specs.declared.edit.Edit.{Edit}
use Rattle.tb_task.specs.declared.incoming.Incoming.{Incoming}
use Rattle.tb_task.specs.declared.task.Task.{Task}
use Rattle.tb_todotxt.specs.File.{file_of}
use Rattle.tb_todotxt.specs.declared.fault.FileFault.{FileFault}
use Rattle.tb_todotxt.specs.declared.fault.FileFault.TheVariants as file
use Rattle.tb_json.specs.declared.fault.JsonFault.{JsonFault}
use Rattle.tb_json.specs.declared.fault.JsonFault.TheVariants.{NotObject, BadField, Memory}
use Rattle.tb_json.specs.declared.import_fault.ImportFault.{ImportFault}
use Rattle.tb_json.specs.declared.import_fault.ImportFault.TheVariants as import
use Rattle.tb_json.specs.Import.{import_of}
use Rattle.tb_json.specs.Modify.{modify_of}
use Rattle.tb_json.specs.Reading.{task_of}
use Rattle.tb_asking.specs.declared.body_fault.BadBody.{BadBody}
use Rattle.tb_asking.specs.declared.body_fault.BadBody.TheVariants.{Whole, Field, Item}

-- the text that bytes are, if they are one
abbrev pub text_in : List ℕ → Option (List ℕ)
text_in bytes = if is_utf8 bytes then Some bytes else None

-- what isn't the JSON that is expected is a bad body, with the name of the member that is in a wrong form
abbrev pub or_bad_field : {A : Type 0} → Result A JsonFault → Result A BadBody
or_bad_field (Ok x) = Ok x
or_bad_field (Err NotObject) = Err Whole
or_bad_field (Err (BadField name)) = Err (Field name)
or_bad_field (Err Memory) = Err Whole

abbrev pub incoming_of : Option Data → ℕ → Result Incoming BadBody
incoming_of None at = Err Whole
incoming_of (Some json) at = or_bad_field (task_of at json)

-- the task that a text is when it comes in at a moment
abbrev pub incoming_in : List ℕ → ℕ → Result Incoming BadBody
incoming_in text at = incoming_of (read text) at

abbrev pub edits_of : Option Data → Result (List Edit) BadBody
edits_of None = Err Whole
edits_of (Some json) = or_bad_field (modify_of json)

-- the edits that a text asks for
abbrev pub edits_in : List ℕ → Result (List Edit) BadBody
edits_in text = edits_of (read text)

-- what is no import is a bad body, with the place of the first item that is no task
abbrev pub or_bad_item : Result (List Incoming) ImportFault → Result (List Incoming) BadBody
or_bad_item (Ok tasks) = Ok tasks
or_bad_item (Err import.NotJson) = Err Whole
or_bad_item (Err import.TooMany) = Err Whole
or_bad_item (Err (import.BadTask at name)) = Err (Item at name)
or_bad_item (Err import.Memory) = Err Whole

-- the tasks of an import's text at a moment
abbrev pub import_in : List ℕ → ℕ → Result (List Incoming) BadBody
import_in text at = or_bad_item (import_of at text)

-- a file of too many lines
abbrev pub or_too_many : Result (List Task) FileFault → Result (List Task) BadBody
or_too_many (Ok tasks) = Ok tasks
or_too_many (Err file.TooMany) = Err Whole
or_too_many (Err file.Memory) = Err Whole

-- the tasks that lines of todo.txt make on a board at a moment
abbrev pub todo_in : List ℕ → ℕ → ℕ → Result (List Task) BadBody
todo_in text at board = or_too_many (file_of at board text)
