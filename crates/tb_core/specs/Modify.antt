-- Changing attributes of one task of a board.
use Rattle.std.specs.Prelude.{ℕ, Bool, not, ◌&&◌, ◌||◌, List, [], ◌∷◌, Option, Some, option_and_then, Result, codes, find, if◌then◌else◌}
use Rattle.tb_board.specs.declared.board.Board.{Board}
use Rattle.tb_board.specs.Board.{is_on}
use Rattle.tb_board.specs.Tasks.{has_id}
use Rattle.tb_board.specs.First.{change_first}
use Rattle.tb_board.specs.Statuses.{is_open, is_template}
use Rattle.tb_core.specs.declared.command.AnswerDetail.{AnswerDetail}
use Rattle.tb_core.specs.declared.command.AnswerDetail.TheVariants.{Changed}
use Rattle.tb_core.specs.declared.refusal.Refusal.{Refusal}
use Rattle.tb_core.specs.declared.refusal.Refusal.TheVariants.{NoTask, WrongStatus, TemplateFixed}
use Rattle.tb_core.specs.Action.{of_task}
use Rattle.tb_core.specs.Edits.{modified, names}
use Rattle.tb_core.specs.Refusals.{bad_task, least, unless_refused, where_holds}
use Rattle.tb_task.specs.declared.checks.Field.{Field}
use Rattle.tb_task.specs.declared.checks.Field.TheVariants.{BadPair}
use Rattle.tb_task.specs.declared.edit.Edit.{Edit}
use Rattle.tb_task.specs.declared.task.Task.{Task}
use Rattle.tb_task.specs.Checks.{fault_of}

-- only a template's step can be named
-- Rule: modify gives no other task a step. Refused as BadTask. Tried by template_fixed.
abbrev pub is_misplaced : List Edit → Task → Bool
is_misplaced edits t = names (codes "recur") edits && not (is_template t)

-- the fault of the edits, and then that of the task with all of them
abbrev pub modify_fault : ℕ → List Edit → Task → Option Field
modify_fault m edits t = if is_misplaced edits t then Some BadPair
    else fault_of (modified m edits t)

-- a template's due date and step stay
-- Rule: a template's due date and step stay. Refused as TemplateFixed. Tried by template_fixed.
abbrev pub is_fixed : List Edit → Task → Bool
is_fixed edits t = is_template t && (names (codes "due") edits || names (codes "recur") edits)

-- in the order of their numbers
abbrev pub modify_refusals : Board → ℕ → List Edit → ℕ → List (Option Refusal)
modify_refusals b id edits m =
    where_holds NoTask (not (is_on b id))
    ∷ where_holds WrongStatus (not (of_task (λ t. is_open t.status) (find (has_id id) b.tasks)))
    ∷ bad_task (option_and_then (modify_fault m edits) (find (has_id id) b.tasks))
    ∷ where_holds TemplateFixed (of_task (is_fixed edits) (find (has_id id) b.tasks))
    ∷ []

-- the task is changed at its place
abbrev pub judged_modify : Board → ℕ → List Edit → ℕ → Result (Board × AnswerDetail) Refusal
judged_modify b id edits m =
    unless_refused (least (modify_refusals b id edits m))
    (record b { tasks = change_first (has_id id) (modified m edits) b.tasks }) (Changed id)
