use Rattle.std.proofs.Common.{drop}
use Rattle.std.specs.List.{AllByRecursion}
use Rattle.tb_keeper.specs.Forms.{HasChangeForm}
use Rattle.tb_keeper.proofs.forms.have_forms.Given as goal

-- if it holds of what is left, it holds of all
abbrev pub invariant-loop-change : goal.invariant-loop-change
invariant-loop-change l = AllByRecursion HasChangeForm (drop l.change-index l.changes) → AllByRecursion HasChangeForm l.changes
