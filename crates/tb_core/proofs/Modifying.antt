-- A task that is modified, where nothing is refused.
use Rattle.std.proofs.Common.{◌≡◌, ℕ, true, false, List, Option, Some, None, Ok, find, refl}
use Rattle.tb_board.specs.declared.board.Board.{Board}
use Rattle.tb_board.specs.Board.{is_on}
use Rattle.tb_board.specs.Tasks.{has_id}
use Rattle.tb_board.specs.First.{change_first}
use Rattle.tb_board.specs.Statuses.{is_open}
use Rattle.tb_core.specs.declared.command.AnswerDetail.TheVariants.{Changed}
use Rattle.tb_core.specs.Edits.{modified}
use Rattle.tb_core.specs.Modify.{is_fixed, is_misplaced, judged_modify}
use Rattle.tb_task.specs.declared.checks.Field.{Field}
use Rattle.tb_task.specs.declared.edit.Edit.{Edit}
use Rattle.tb_task.specs.declared.task.Task.{Task}
use Rattle.tb_task.specs.Checks.{checked, fault_of, refused}

-- a task that is taken has no fault
pub taken : (t : Task) (x : Unit {0}) → Ok x ≡ checked t → fault_of t ≡ None
taken t x h = none (fault_of t) x h
  where
    none : (o : Option Field) (x : Unit {0}) → Ok x ≡ refused o → o ≡ None
    none None x h = refl
    none (Some fault) x h = absurd (cc)

pub record IsModified (b : Board) (id : ℕ) (edits : List Edit) (m : ℕ) (t : Task) : Type 0 where
  pub there : is_on b id ≡ true
  pub found : find (has_id id) b.tasks ≡ Some t
  pub standing : is_open t.status ≡ true
  pub placed : is_misplaced edits t ≡ false
  pub good : fault_of (modified m edits t) ≡ None
  pub free : is_fixed edits t ≡ false

pub judged-modified : (b : Board) (id : ℕ) (edits : List Edit) (m : ℕ) (t : Task) → IsModified b id edits m t
    → judged_modify b id edits m ≡ Ok (record b { tasks = change_first (has_id id) (modified m edits) b.tasks }, Changed id)
judged-modified b id edits m t is = rw (is.there, is.found, is.standing, is.placed, is.good, is.free) refl
