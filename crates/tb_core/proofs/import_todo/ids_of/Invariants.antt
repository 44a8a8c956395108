use Rattle.std.proofs.Common.{take}
use Rattle.tb_core.specs.ImportTodo.{HasIdsOf}
use Rattle.tb_core.proofs.import_todo.ids_of.Given as goal

abbrev pub invariant-loop-task : goal.invariant-loop-task
invariant-loop-task l = HasIdsOf (take l.task-index l.tasks) l.ids
