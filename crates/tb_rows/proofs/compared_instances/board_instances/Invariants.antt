use Rattle.std.proofs.Common.{◌≡◌, take}
use Rattle.tb_rows.specs.Rows.{rows_from, instance_rows}
use Rattle.tb_rows.proofs.compared_instances.board_instances.Given as goal

abbrev pub invariant-loop-place : goal.invariant-loop-place
invariant-loop-place l = l.instances ≡ rows_from (instance_rows l.board) 1 (take l.place l.board.tasks)
