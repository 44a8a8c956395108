-- Adding a task to a board.
use Rattle.std.specs.Prelude.{ℕ, Bool, not, ◌&&◌, ◌||◌, List, [], ◌∷◌, Option, Some, None, is_some, Result, if◌then◌else◌, length, nat_le}
use Rattle.tb_task.specs.declared.task.Task.{Task}
use Rattle.tb_task.specs.declared.checks.Field.{Field}
use Rattle.tb_task.specs.declared.checks.Field.TheVariants.{BadPair}
use Rattle.tb_task.specs.Checks.{fault_of}
use Rattle.tb_board.specs.declared.board.Board.{Board}
use Rattle.tb_core.specs.declared.command.AnswerDetail.{AnswerDetail}
use Rattle.tb_core.specs.declared.command.AnswerDetail.TheVariants.{Added}
use Rattle.tb_task.specs.declared.incoming.Incoming.{Incoming}
use Rattle.tb_core.specs.declared.refusal.Refusal.{Refusal}
use Rattle.tb_core.specs.declared.refusal.Refusal.TheVariants.{NoTask, UuidTaken, Full}
use Rattle.tb_board.specs.Board.{is_on, with_task}
use Rattle.tb_board.specs.Numbers.{free_id}
use Rattle.tb_core.specs.Refusals.{where_holds, bad_task, least, unless_refused}
use Rattle.tb_board.specs.Board.{lacks_depends}
use Rattle.tb_board.specs.Good.{has_template_form}
use Rattle.tb_task.specs.Limits.{most_tasks}

-- it came as an instance or with a mask
-- Rule: add takes no instance and no mask. Refused as BadTask. Tried by no test.
abbrev pub is_linked : Incoming → Bool
is_linked i = is_some i.raw_parent || is_some i.raw_imask || is_some i.raw_mask

-- no reader leaves it so: it has a parent, or a recurrence that doesn't go with its status
abbrev pub is_misread : Task → Bool
is_misread t = is_some t.parent || not (has_template_form t)

abbrev pub first_fault : Option Field → Bool → Option Field
first_fault (Some fault) linked = Some fault
first_fault None linked = if linked then Some BadPair else None

-- the fault of the task itself, or what doesn't belong to a task that is added
abbrev pub add_fault : Incoming → Option Field
add_fault i = first_fault (fault_of i.task) (is_linked i || is_misread i.task)

abbrev pub is_full : Board → Bool
is_full b = nat_le most_tasks (length b.tasks)

-- in the order of their numbers
-- Rule: a given uuid is new to the board. Refused as UuidTaken. Tried by number_used_by_hand.
abbrev pub add_refusals : Board → Incoming → List (Option Refusal)
add_refusals b i =
    where_holds NoTask (lacks_depends b i.task.depends)
    ∷ where_holds UuidTaken (i.named && is_on b i.task.id)
    ∷ bad_task (add_fault i)
    ∷ where_holds Full (is_full b)
    ∷ []

-- its own identifier, or that of the least free number
-- Rule: a task without a uuid gets that of the least free number. Tried by number_used_by_hand.
abbrev pub entered_id : Board → Incoming → ℕ
entered_id b i = if i.named then i.task.id else free_id b

abbrev pub entered : Board → Incoming → ℕ → Task
entered b i m = record i.task { id = entered_id b i; modified = Some m }

-- the task goes last
abbrev pub judged_add : Board → Incoming → ℕ → Result (Board × AnswerDetail) Refusal
judged_add b i m =
    unless_refused (least (add_refusals b i)) (with_task b (entered b i m))
    (Added (entered_id b i) i.dropped)
