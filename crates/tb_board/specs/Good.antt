-- What each board keeps.
use Rattle.std.specs.Prelude.{◌≡◌, ◌≤◌, Bool, true, false, not, ◌&&◌, ◌||◌, None, is_some, if◌then◌else◌, length, nat_eq}
use Rattle.std.specs.List.{IsDistinct, AllByRecursion}
use Rattle.std.specs.List.Sorted.{IsStrictlySortedBy}
use Rattle.tb_task.specs.declared.task.Task.{Task}
use Rattle.tb_task.specs.declared.status.Status.{Status}
use Rattle.tb_task.specs.declared.status.Status.TheVariants.{Pending, Waiting, Recurring, Completed, Deleted}
use Rattle.tb_task.specs.Checks.{fault_of, is_recurring, is_step}
use Rattle.tb_board.specs.declared.board.Board.{Board}
use Rattle.tb_board.specs.Board.{lacks_depends}
use Rattle.tb_board.specs.Tasks.{ids}
use Rattle.tb_board.specs.Links.{IsAcyclic}
use Rattle.tb_board.specs.Statuses.{is_template}
use Rattle.tb_board.specs.Instances.{by_template, HasRuns, HasTemplateOn, IsGoneOn}
use Rattle.tb_task.specs.Limits.{most_tasks}

abbrev pub is_deleted : Status → Bool
is_deleted Pending = false
is_deleted Waiting = false
is_deleted Recurring = false
is_deleted Completed = false
is_deleted Deleted = true

-- a template recurs or is deleted, and has a due date and a step that can be read; no other task recurs
abbrev pub has_template_form : Task → Bool
has_template_form t =
    if is_template t
    then (is_recurring t.status || is_deleted t.status) && (is_some t.due && is_step t.recur)
    else not (is_recurring t.status)

-- a task that a board takes, and that has the form of a template or of a plain task
pub record IsSound (t : Task) : Type 0 where
  pub taken : fault_of t ≡ None
  pub template : has_template_form t ≡ true

-- the tasks on which it depends are on the board
abbrev pub IsLinkedOn : Board → Task → Type 0
IsLinkedOn b t = lacks_depends b t.depends ≡ false

-- a good board: distinct identifiers, 10,000 tasks at most, each sound and linked to tasks of the board alone, no cycles; the places of each
-- template's instances are 0 up to their number; parents and gone places are of templates of the board
-- Rule: a board's identifiers differ, and its links form no cycle. Tried by worlds.
pub record IsGood (b : Board) : Type 0 where
  pub distinct : IsDistinct nat_eq (ids b.tasks)
  pub few : length b.tasks ≤ most_tasks
  pub sound : AllByRecursion IsSound b.tasks
  pub linked : AllByRecursion (IsLinkedOn b) b.tasks
  pub acyclic : IsAcyclic b
  pub runs : HasRuns b
  pub parents : AllByRecursion (HasTemplateOn b) b.tasks
  pub gone : AllByRecursion (IsGoneOn b) b.gone
  pub gone_order : IsStrictlySortedBy (by_template (ids b.tasks)) b.gone
