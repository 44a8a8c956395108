use Rattle.std.proofs.Common.{◌≡◌, ◌<◌, get_or, length}
use Rattle.tb_rows.specs.Rows.{link_rows}
use Rattle.tb_rows.proofs.NextRows.{rows_more}
use Rattle.tb_rows.proofs.compared_links.board_links.Goals as goal

pub loop-place-preserved : goal.loop-place-preserved
loop-place-preserved c =
    let within : c.loop-place.place < length c.args.board.now.tasks = rw c.as_slice-task-items.ensures at c.loop-place-test.true in
    let at : c.task-item.result ≡ get_or c.args.board.now.tasks c.loop-place.place c.task-item.result = rw c.as_slice-task-items.ensures at c.task-item.is in
    rows_more (link_rows c.args.board.now) c.args.board.now.tasks c.loop-place.place c.task-item.result c.loop-place.links c.push_links.new.links within at c.loop-place.invariant
    (rw c.get.ensures at c.in_ok-push_links.ensures)
