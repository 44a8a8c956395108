use Rattle.std.proofs.Common.{◌≡◌, ◌++◌, take}
use Rattle.tb_rows.specs.Rows.{rows_from}
use Rattle.tb_rows.specs.Steps.{instance_template}
use Rattle.tb_rows.proofs.concerned.push_instance_templates.Given as goal

abbrev pub invariant-loop-place : goal.invariant-loop-place
invariant-loop-place l = l.templates ≡ l.fn.templates ++ rows_from (instance_template l.board l.old l.put) 0 (take l.place l.board.tasks)
