-- Why an import is refused, and what its steps give.
use Rattle.std.specs.Prelude.{◌≡◌, ℕ, ◌+◌, Bool, not, ◌||◌, List, [], ◌∷◌, Option, Some, None, is_some, unwrap_or, Result, Ok, Err, if◌then◌else◌, length, nat_lt}
use Rattle.tb_graph.specs.Leads.{is_acyclic}
use Rattle.tb_task.specs.declared.checks.Field.{Field}
use Rattle.tb_task.specs.declared.checks.Field.TheVariants.{BadPair}
use Rattle.tb_task.specs.declared.incoming.Incoming.{Incoming}
use Rattle.tb_task.specs.Checks.{fault_of, is_recurring}
use Rattle.tb_board.specs.declared.board.Board.{Board}
use Rattle.tb_board.specs.Good.{has_template_form}
use Rattle.tb_board.specs.Links.{links}
use Rattle.tb_import.specs.declared.imported.Imported.{Imported}
use Rattle.tb_import.specs.declared.imported.ImportCounts.{ImportCounts}
use Rattle.tb_import.specs.declared.refusal.ImportRefusal.{ImportRefusal}
use Rattle.tb_import.specs.declared.refusal.ImportRefusal.TheVariants.{BadTask, Cycle, Full}
use Rattle.tb_import.specs.declared.refusal.ImportFailure.{ImportFailure}
use Rattle.tb_import.specs.declared.refusal.ImportFailure.TheVariants.{Memory, Refused}
use Rattle.tb_import.specs.Entering.{is_linked}
use Rattle.tb_import.specs.Import.{board_after, counts_after}
use Rattle.tb_task.specs.Limits.{longest_text, most_tasks}

-- a template or a plain task doesn't have the form of one
abbrev pub is_misformed : Incoming → Bool
is_misformed i = is_some i.task.parent || not (has_template_form i.task)

-- no reader leaves it so: what came as an instance recurs, another task has a parent or not the form of a template or a plain task, or the mask is too long
abbrev pub is_misread : Incoming → Bool
is_misread i = (if is_linked i then is_recurring i.task.status else is_misformed i)
    || nat_lt longest_text (length (unwrap_or i.raw_mask []))

abbrev pub first_fault : Option Field → Bool → Option Field
first_fault (Some fault) misread = Some fault
first_fault None misread = if misread then Some BadPair else None

-- the fault of the task itself, or that no reader leaves it so
abbrev pub import_fault : Incoming → Option Field
import_fault i = first_fault (fault_of i.task) (is_misread i)

abbrev pub bad_task_or : ℕ → Option Field → Option ImportRefusal → Option ImportRefusal
bad_task_or at (Some field) later = Some (BadTask at field)
bad_task_or at None later = later

-- the first task with a fault, known or new, counted from the number at
abbrev pub bad_task : ℕ → List Incoming → Option ImportRefusal
bad_task at [] = None
bad_task at (i ∷ is) = bad_task_or at (import_fault i) (bad_task (at + 1) is)

abbrev pub where_holds : ImportRefusal → Bool → Option ImportRefusal
where_holds r holds = if holds then Some r else None

-- a walk of links would close
abbrev pub is_cyclic : Board → Bool
is_cyclic b = not (is_acyclic (links b))

abbrev pub is_too_full : Board → Bool
is_too_full b = nat_lt most_tasks (length b.tasks)

abbrev pub least : List (Option ImportRefusal) → Option ImportRefusal
least [] = None
least (None ∷ rs) = least rs
least (Some r ∷ rs) = Some r

-- in order of their numbers
-- Rule: one bad task refuses the whole import. Refused as BadTask. Tried by import_bad_task.
abbrev pub import_refusals : Board → List Incoming → List (Option ImportRefusal)
import_refusals b is = bad_task 0 is ∷ where_holds Cycle (is_cyclic (board_after b is))
    ∷ where_holds Full (is_too_full (board_after b is)) ∷ []

abbrev pub unless_refused : Option ImportRefusal → Board → ImportCounts
    → Result (Board × ImportCounts) ImportRefusal
unless_refused None b counts = Ok (b, counts)
unless_refused (Some r) b counts = Err r

-- what the import makes of a board that is awake
abbrev pub judged_import : Board → List Incoming → Result (Board × ImportCounts) ImportRefusal
judged_import b is =
    unless_refused (least (import_refusals b is)) (board_after b is) (counts_after b is)

-- a failure is the refusal that is expected, unless memory ran out
abbrev pub Fails : {Y : Type 0} → ImportFailure → Result Y ImportRefusal → Type 0
Fails Memory expected = Unit {0}
Fails (Refused r) expected = expected ≡ Err r

-- what the import made of a draft is what is expected of its board
abbrev pub Gives : Result Imported ImportFailure → Result (Board × ImportCounts) ImportRefusal → Type 0
Gives (Ok i) expected = expected ≡ Ok (i.draft.board, i.counts)
Gives (Err e) expected = Fails e expected
