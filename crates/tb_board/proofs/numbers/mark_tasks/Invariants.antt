use Rattle.std.proofs.Common.{take}
use Rattle.tb_board.specs.Marks.{IsMarkedFor}
use Rattle.tb_board.proofs.numbers.mark_tasks.Given as goal

abbrev pub invariant-loop-task : goal.invariant-loop-task
invariant-loop-task l = IsMarkedFor (take l.task-index l.tasks) l.board l.fn.marks l.marks
