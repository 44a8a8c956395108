-- What another tool exported, as an import takes it, and what is told of it.
use Rattle.std.specs.Prelude.{◌≡◌, ◌≤◌, ◌==◌, Bool, true, false, List, length, map, nat_lt, Option, Some, None, Result, Ok, Err}
use Rattle.serde_json.specs.Data.{Data, array, depth}
use Rattle.serde_json.specs.Read.{max_depth, read}
use Rattle.serde_json.specs.View.{items_of}
use Rattle.tb_task.specs.Limits.{most_tasks}
use Rattle.tb_json.specs.Import.{items_of as import_items}
use Rattle.tb_cleaning.specs.Entries.{Judged}
use Rattle.tb_cleaning.specs.Mark.{without_mark}
use Rattle.tb_cleaning.specs.Notes.{notes_of, notes_text}
use Rattle.tb_cleaning.specs.Ordering.{brought}
use Rattle.tb_cleaning.specs.Sorting.{sorted}
use Rattle.tb_cleaning.specs.Steps.{Text}
use Rattle.tb_cleaning.specs.declared.cleaning.Cleaned.{Cleaned}
use Rattle.tb_cleaning.specs.declared.fault.CleaningFault.{CleaningFault}
use Rattle.tb_cleaning.specs.declared.fault.CleaningFault.TheVariants.{Memory, NotJson, TooMany}

-- the tasks as they are written now
abbrev pub items_in : List Judged → List Data
items_in es = map (λ (e : Judged). e.item) es

-- a text is the list of these values, if JSON may nest so deep
abbrev pub Reads : Text → List Data → Type 0
Reads text ds = depth (array (items_of ds)) ≤ max_depth → read text ≡ Some (array (items_of ds))

-- the cleaned text has the tasks that are taken, each as it is written now and in their order, and the notes say all else
abbrev pub IsCleaned : Bool → List Data → Cleaned → Type 0
IsCleaned skips ds cleaned =
    Reads cleaned.text (items_in (brought (sorted ds)))
    × (cleaned.notes ≡ notes_text skips (notes_of (sorted ds)))
    × (cleaned.is_whole ≡ (length (notes_of (sorted ds)).refused == 0))

abbrev pub CleansItems : Bool → Option (List Data) → Result Cleaned CleaningFault → Type 0
CleansItems skips items (Err Memory) = Unit {0}
CleansItems skips None (Ok cleaned) = ⊥
CleansItems skips None (Err NotJson) = Unit {0}
CleansItems skips None (Err TooMany) = ⊥
CleansItems skips (Some ds) (Ok cleaned) =
    (nat_lt most_tasks (length ds) ≡ false) × IsCleaned skips ds cleaned
CleansItems skips (Some ds) (Err NotJson) = ⊥
CleansItems skips (Some ds) (Err TooMany) = nat_lt most_tasks (length ds) ≡ true

-- What an import would read of a text, cleaned.
abbrev pub Cleans : Bool → Text → Result Cleaned CleaningFault → Type 0
Cleans skips text result = CleansItems skips (import_items (without_mark text)) result
