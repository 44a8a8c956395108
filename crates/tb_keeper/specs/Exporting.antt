-- What an export writes of a board.
use Rattle.std.specs.Prelude.{◌≡◌, ◌++◌, ℕ, Bool, true, false, List, [], Option, Some, None, Result, Ok, Err, length, map}
use Rattle.std.specs.Io.KnownBytes.{Appends}
use Rattle.tb_task.specs.declared.incoming.Shown.{Shown}
use Rattle.tb_task.specs.declared.task.Task.{Task}
use Rattle.tb_board.specs.declared.board.Board.{Board}
use Rattle.tb_json.specs.ListText.{list_text}
use Rattle.tb_json.specs.Writing.{shown_text}
use Rattle.tb_report.specs.Showing.{shown}
use Rattle.tb_sql.specs.declared.store.StoreFault.{StoreFault}
use Rattle.tb_sql.specs.declared.store.StoreFault.TheVariants.{Memory as NoRoom, Store as Failed}
use Rattle.tb_values.specs.Appends.{AppendsFront}
use Rattle.tb_keeper.specs.declared.export_fault.ExportFault.{ExportFault}
use Rattle.tb_keeper.specs.declared.export_fault.ExportFault.TheVariants.{Memory, NoBoard, Store, WriteFailed}

-- the JSON of all tasks of a board, as they are at a moment
abbrev pub export_text : Board → ℕ → List ℕ
export_text b m = list_text (map shown_text (shown b m))

-- the board is there, it has so many tasks, and its whole text was written
abbrev pub IsExported : Option Board → ℕ → ℕ → Option (List ℕ) → Option (List ℕ) → Type 0
IsExported None m n old new = ⊥
IsExported (Some b) m n old new = (n ≡ length b.tasks) × Appends old new (export_text b m)

-- A front of its text was written, and the fault isn't that there is no board. Where there is none nothing was written.
abbrev pub IsCut : Option Board → ℕ → ExportFault → Option (List ℕ) → Option (List ℕ) → Type 0
IsCut None m fault old new = new ≡ old
IsCut (Some b) m fault old new = (fault ≡ NoBoard → ⊥) × AppendsFront old new (export_text b m)

-- the fault of the store as an export tells it
abbrev pub fault_of : StoreFault → ExportFault
fault_of NoRoom = Memory
fault_of Failed = Store

abbrev pub is_failure : ExportFault → Bool
is_failure NoBoard = false
is_failure WriteFailed = false
is_failure Store = true
is_failure Memory = false

-- the answer is that the store failed
abbrev pub is_store : Result ℕ ExportFault → Bool
is_store (Ok n) = false
is_store (Err fault) = is_failure fault

-- ---- for private clauses: of a board that may be missing

-- a board that isn't there has no tasks
abbrev pub tasks_on : Option Board → List Task
tasks_on None = []
tasks_on (Some b) = b.tasks

abbrev pub shown_on : Option Board → ℕ → List Shown
shown_on None m = []
shown_on (Some b) m = shown b m

abbrev pub text_on : Option Board → ℕ → List ℕ
text_on b m = list_text (map shown_text (shown_on b m))

-- known bytes grow by all of a text but this rest of it
abbrev pub AppendsBut : Option (List ℕ) → Option (List ℕ) → List ℕ → List ℕ → Type 0
AppendsBut old new text rest = (front : List ℕ) × (text ≡ front ++ rest) × Appends old new front
