use Rattle.std.proofs.Common.{◌≡◌, drop}
use Rattle.tb_core.specs.ImportTodo.{first_bad}
use Rattle.tb_core.proofs.import_todo.first_bad.Given as goal

abbrev pub invariant-loop-at : goal.invariant-loop-at
invariant-loop-at l = first_bad 0 l.tasks ≡ first_bad l.at (drop l.at l.tasks)
