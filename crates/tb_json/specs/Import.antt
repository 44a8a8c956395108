-- The tasks of an import: a JSON array, one object, or an item on each line.
use Rattle.std.specs.Prelude.{ℕ, ◌==◌, List, [], ◌∷◌, ◌++◌, length, Option, Some, None, option_map, option_and_then, Result, Ok, Err, codes, nat_lt, if◌then◌else◌}
use Rattle.serde_json.specs.Data.{Data, null, boolean, number, string, array, object, Items, no_items, item}
use Rattle.tb_values.specs.Outcome.{◌>>=◌}
use Rattle.tb_task.specs.declared.incoming.Incoming.{Incoming}
use Rattle.tb_json.specs.Lines.{line_text, lines_of}
use Rattle.tb_json.specs.Parse.{json_of_bytes}
use Rattle.tb_json.specs.Reading.{task_of}
use Rattle.tb_json.specs.declared.fault.JsonFault.{JsonFault}
use Rattle.tb_json.specs.declared.fault.JsonFault.TheVariants.{NotObject, BadField, Memory as NoMemory}
use Rattle.tb_json.specs.declared.import_fault.ImportFault.{ImportFault}
use Rattle.tb_json.specs.declared.import_fault.ImportFault.TheVariants.{NotJson, TooMany, BadTask}
use Rattle.tb_task.specs.Limits.{most_items}

-- ---- the items

abbrev pub with_text : List Data → List ℕ → Option (List Data)
with_text found text = if length text == 0 then Some found
    else option_map (λ d. found ++ d ∷ []) (json_of_bytes text)

-- each line that isn't empty is an item
abbrev pub items_of_lines : List Data → List (List ℕ) → Option (List Data)
items_of_lines found [] = Some found
items_of_lines found (line ∷ lines) =
    option_and_then (λ more. items_of_lines more lines) (with_text found (line_text line))

abbrev pub items_of_array : Items → List Data
items_of_array no_items = []
items_of_array (item d ds) = d ∷ items_of_array ds

-- what is neither an array nor an object goes by lines
abbrev pub items_of_json : List ℕ → Option Data → Option (List Data)
items_of_json text None = items_of_lines [] (lines_of text)
items_of_json text (Some null) = items_of_lines [] (lines_of text)
items_of_json text (Some (boolean b)) = items_of_lines [] (lines_of text)
items_of_json text (Some (number n)) = items_of_lines [] (lines_of text)
items_of_json text (Some (string s)) = items_of_lines [] (lines_of text)
items_of_json text (Some (array ds)) = Some (items_of_array ds)
items_of_json text (Some (object ms)) = Some (object ms ∷ [])

abbrev pub items_of : List ℕ → Option (List Data)
items_of text = items_of_json text (json_of_bytes text)

-- ---- the tasks

-- what isn't an object has a fault with no name
abbrev pub name_of : JsonFault → List ℕ
name_of NotObject = []
name_of (BadField name) = name
name_of NoMemory = []

-- an import's task has its identifier
-- Rule: each task of a JSON import has a uuid. Refused as BadBody. Tried by imported_texts.
abbrev pub if_named : ℕ → Incoming → Result Incoming ImportFault
if_named at i = if i.named then Ok i else Err (BadTask at (codes "uuid"))

abbrev pub named_task : ℕ → Result Incoming JsonFault → Result Incoming ImportFault
named_task at (Ok i) = if_named at i
named_task at (Err fault) = Err (BadTask at (name_of fault))

-- the items' tasks at a moment after those found, or the first item that is none
abbrev pub tasks_of : ℕ → List Incoming → List Data → Result (List Incoming) ImportFault
tasks_of m found [] = Ok found
tasks_of m found (d ∷ ds) =
    named_task (length found) (task_of m d) >>= λ i. tasks_of m (found ++ i ∷ []) ds

-- at most 1,000 items
abbrev pub tasks_within : ℕ → Option (List Data) → Result (List Incoming) ImportFault
tasks_within m None = Err NotJson
tasks_within m (Some ds) = if nat_lt most_items (length ds) then Err TooMany else tasks_of m [] ds

-- the tasks of a text at a moment, or its first fault
abbrev pub import_of : ℕ → List ℕ → Result (List Incoming) ImportFault
import_of m text = tasks_within m (items_of text)
