use Rattle.std.proofs.Common.{◌<◌, length, arith}
use Rattle.tb_rows.specs.Rows.{mask_cell}
use Rattle.tb_sql_tables.specs.declared.rows.TaskRow.{TaskRow}
use Rattle.tb_rows.proofs.Comparing.{images_at}
use Rattle.tb_rows.proofs.Telling.{tells_other}
use Rattle.tb_rows.proofs.compared_masks.have_masks.Goals as goal

pub returns-then-not-branch : goal.returns-then-not-branch
returns-then-not-branch c =
    let within : c.loop-place.place < length c.args.board.now.tasks = omega (arith, c.if-rows-len.false, c.len.ensures, c.loop-place-test.true) in
    tells_other c.in_ok-has_mask.field-0 c.if-not-branch.true c.in_ok-has_mask.ensures
    (images_at (λ (row : TaskRow). row.mask) (mask_cell c.args.board.now) c.args.rows.now c.args.board.now.tasks c.loop-place.place c.index-rows-place.result c.task_at.result.now
    c.loop-place-test.true within c.index-rows-place.is c.task_at.ensures)
