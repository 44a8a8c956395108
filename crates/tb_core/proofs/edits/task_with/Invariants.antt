use Rattle.std.proofs.Common.{◌≡◌, drop}
use Rattle.tb_core.specs.Edits.{edited_by}
use Rattle.tb_core.proofs.edits.task_with.Given as goal

-- the edits that are left make of this task what all of them make of the first one
abbrev pub invariant-loop-edit : goal.invariant-loop-edit
invariant-loop-edit l = edited_by (drop l.edit-index l.edits) l.task ≡ edited_by l.fn.edits l.fn.task
