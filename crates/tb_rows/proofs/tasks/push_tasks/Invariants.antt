use Rattle.std.proofs.Common.{◌≡◌, ◌++◌, take}
use Rattle.tb_rows.specs.Rows.{rows_from}
use Rattle.tb_rows.specs.Steps.{task_changes}
use Rattle.tb_rows.proofs.tasks.push_tasks.Given as goal

abbrev pub invariant-loop-place : goal.invariant-loop-place
invariant-loop-place l = l.rows ≡ l.fn.rows ++ rows_from (task_changes l.board l.concerned.old l.concerned.put l.concerned.templates) 0 (take l.place l.board.tasks)
