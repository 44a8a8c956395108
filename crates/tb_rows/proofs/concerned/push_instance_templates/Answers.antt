use Rattle.std.proofs.Common.{◌≡◌, ◌<◌, get_or, length}
use Rattle.tb_rows.specs.Steps.{instance_template}
use Rattle.tb_rows.proofs.Pushing.{rows_next}
use Rattle.tb_rows.proofs.concerned.push_instance_templates.Goals as goal

pub loop-place-preserved : goal.loop-place-preserved
loop-place-preserved c =
    let within : c.loop-place.place < length c.args.board.now.tasks = rw c.as_slice-task-items.ensures at c.loop-place-test.true in
    let at : c.task-item.result ≡ get_or c.args.board.now.tasks c.loop-place.place c.task-item.result = rw c.as_slice-task-items.ensures at c.task-item.is in
    rows_next (instance_template c.args.board.now c.args.old c.args.put.now) c.args.board.now.tasks c.loop-place.place c.task-item.result c.args.templates.now c.loop-place.templates c.push_instance_template.new.templates within at c.loop-place.invariant
    (rw c.get.ensures at c.in_ok-push_instance_template.ensures)
