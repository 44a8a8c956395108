-- Links between the tasks of a board.
use Rattle.std.specs.Prelude.{◌≡◌, ℕ, ◌==◌, Bool, true, not, ◌||◌, List, [], ◌∷◌, Option, Some, Result, if◌then◌else◌, find}
use Rattle.std.specs.BTreeSet.{replace_key}
use Rattle.std.specs.List.{list_any}
use Rattle.std.specs.Ordering.{nat_cmp}
use Rattle.std.specs.Set.{remove_key}
use Rattle.tb_task.specs.declared.task.Task.{Task}
use Rattle.tb_board.specs.declared.board.Board.{Board}
use Rattle.tb_board.specs.Board.{is_on}
use Rattle.tb_board.specs.Tasks.{has_id}
use Rattle.tb_board.specs.First.{change_first, IsFirst}
use Rattle.tb_board.specs.Links.{leads_on}
use Rattle.tb_board.specs.Statuses.{is_open}
use Rattle.tb_core.specs.declared.command.AnswerDetail.{AnswerDetail}
use Rattle.tb_core.specs.declared.command.AnswerDetail.TheVariants.{Changed}
use Rattle.tb_core.specs.declared.refusal.Refusal.{Refusal}
use Rattle.tb_core.specs.declared.refusal.Refusal.TheVariants.{NoTask, WrongStatus, NoLink, Cycle}
use Rattle.tb_core.specs.Action.{of_task}
use Rattle.tb_core.specs.Refusals.{least, unless_refused, where_holds}

abbrev pub is_open_task : Task → Bool
is_open_task t = is_open t.status

-- the task has a link to the other one
abbrev pub depends_on : ℕ → Task → Bool
depends_on on t = list_any (λ id. id == on) t.depends

-- the link goes to its place in the order, and a task that has it isn't changed
-- Rule: a link that is there already changes nothing. Tried by no test.
abbrev pub linked : ℕ → ℕ → Task → Task
linked m on t = if depends_on on t then t
    else record t { depends = replace_key nat_cmp t.depends on; modified = Some m }

abbrev pub unlinked : ℕ → ℕ → Task → Task
unlinked m on t = record t { depends = remove_key (λ id. id == on) t.depends; modified = Some m }

-- one of the two isn't on the board
abbrev pub lacks_either : Board → ℕ → ℕ → Bool
lacks_either b id on = not (is_on b id) || not (is_on b on)

-- a link from the first to the second would close a walk: they are one, or the second depends on the first, directly or by other ones
-- Rule: links form no cycle. Refused as Cycle. Tried by cycle.
abbrev pub closes_walk : Board → ℕ → ℕ → Bool
closes_walk b id on = (id == on) || leads_on b on id

-- a link is added or removed between two tasks of the board, of which the first is open; a last refusal is the command's own
abbrev pub link_refusals : Board → ℕ → ℕ → Option Refusal → List (Option Refusal)
link_refusals b id on last =
    where_holds NoTask (lacks_either b id on)
    ∷ where_holds WrongStatus (not (of_task is_open_task (find (has_id id) b.tasks)))
    ∷ last
    ∷ []

abbrev pub depend_refusals : Board → ℕ → ℕ → List (Option Refusal)
depend_refusals b id on = link_refusals b id on (where_holds Cycle (closes_walk b id on))

-- Rule: undepend takes a link of the task. Refused as NoLink. Tried by links_and_notes_removed.
abbrev pub undepend_refusals : Board → ℕ → ℕ → List (Option Refusal)
undepend_refusals b id on =
    link_refusals b id on
    (where_holds NoLink (not (of_task (depends_on on) (find (has_id id) b.tasks))))

-- the first task stands at the place and is open, and the other one is on the board
pub record IsPlaceToLink (b : Board) (id on place : ℕ) : Type 0 where
  pub first : IsFirst (has_id id) b.tasks place
  pub there : is_on b on ≡ true
  pub standing : of_task is_open_task (find (has_id id) b.tasks) ≡ true

abbrev pub judged_depend : Board → ℕ → ℕ → ℕ → Result (Board × AnswerDetail) Refusal
judged_depend b id on m =
    unless_refused (least (depend_refusals b id on))
    (record b { tasks = change_first (has_id id) (linked m on) b.tasks }) (Changed id)

abbrev pub judged_undepend : Board → ℕ → ℕ → ℕ → Result (Board × AnswerDetail) Refusal
judged_undepend b id on m =
    unless_refused (least (undepend_refusals b id on))
    (record b { tasks = change_first (has_id id) (unlinked m on) b.tasks }) (Changed id)
