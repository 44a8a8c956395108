-- What is done to one task of a board.
use Rattle.std.specs.Prelude.{ℕ, Bool, true, false, not, ◌&&◌, List, [], ◌∷◌, Option, Some, None, is_some, Result, find}
use Rattle.tb_task.specs.declared.task.Task.{Task}
use Rattle.tb_task.specs.declared.checks.Field.{Field}
use Rattle.tb_core.specs.declared.action.Action.{Action}
use Rattle.tb_core.specs.declared.action.Action.TheVariants.{Done, Delete, Reopen, Start, Stop, Annotate, Denotate}
use Rattle.tb_board.specs.declared.board.Board.{Board}
use Rattle.tb_core.specs.declared.command.AnswerDetail.{AnswerDetail}
use Rattle.tb_core.specs.declared.command.AnswerDetail.TheVariants.{Changed}
use Rattle.tb_core.specs.declared.refusal.Refusal.{Refusal}
use Rattle.tb_core.specs.declared.refusal.Refusal.TheVariants.{NoTask, WrongStatus, NoLink}
use Rattle.tb_board.specs.Board.{is_on}
use Rattle.tb_board.specs.Tasks.{has_id}
use Rattle.tb_board.specs.First.{change_first}
use Rattle.tb_core.specs.Notes.{annotated, denotated, has_note, note_fault}
use Rattle.tb_core.specs.Refusals.{bad_task, least, unless_refused, where_holds}
use Rattle.tb_core.specs.Transitions.{completed, deleted, reopened, started, stopped}
use Rattle.tb_board.specs.Statuses.{is_open, is_pending, is_pending_or_waiting}

-- which tasks an action takes
-- Rule: an action takes tasks of its statuses. Refused as WrongStatus. Tried by template_fixed.
abbrev pub takes : Action → Task → Bool
takes Done t = is_pending_or_waiting t.status
takes Delete t = is_open t.status
takes Reopen t = not (is_open t.status)
takes Start t = is_pending t.status && not (is_some t.start)
takes Stop t = is_pending t.status && is_some t.start
takes (Annotate text) t = true
takes (Denotate text) t = true

-- what is wrong with the action itself
abbrev pub action_fault : Action → Option Field
action_fault Done = None
action_fault Delete = None
action_fault Reopen = None
action_fault Start = None
action_fault Stop = None
action_fault (Annotate text) = note_fault text
action_fault (Denotate text) = None

-- the task lacks what the action would remove
-- Rule: denotate takes a note of the task. Refused as NoLink. Tried by links_and_notes_removed.
abbrev pub lacks : Action → Task → Bool
lacks Done t = false
lacks Delete t = false
lacks Reopen t = false
lacks Start t = false
lacks Stop t = false
lacks (Annotate text) t = false
lacks (Denotate text) t = not (has_note text t)

-- the task after the action at a moment
abbrev pub acted : ℕ → Action → Task → Task
acted m Done t = completed m t
acted m Delete t = deleted m t
acted m Reopen t = reopened m t
acted m Start t = started m t
acted m Stop t = stopped m t
acted m (Annotate text) t = annotated m text t
acted m (Denotate text) t = denotated m text t

-- a test of the task, where there is one
abbrev pub of_task : (Task → Bool) → Option Task → Bool
of_task test None = false
of_task test (Some t) = test t

abbrev pub action_refusals : Board → ℕ → Action → List (Option Refusal)
action_refusals b id a =
    where_holds NoTask (not (is_on b id))
    ∷ where_holds WrongStatus (not (of_task (takes a) (find (has_id id) b.tasks)))
    ∷ bad_task (action_fault a)
    ∷ where_holds NoLink (of_task (lacks a) (find (has_id id) b.tasks))
    ∷ []

-- the task is changed at its place
abbrev pub judged_action : Board → ℕ → Action → ℕ → Result (Board × AnswerDetail) Refusal
judged_action b id a m =
    unless_refused (least (action_refusals b id a))
    (record b { tasks = change_first (has_id id) (acted m a) b.tasks }) (Changed id)
