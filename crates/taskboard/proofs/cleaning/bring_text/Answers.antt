use Rattle.taskboard.proofs.Bringing.{brought_in_parts, brought_whole, cut_in_parts, cut_whole}
use Rattle.taskboard.proofs.cleaning.bring_text.Goals as goal

pub returns-then-is_all-clause-done : goal.returns-then-is_all-clause-done
returns-then-is_all-clause-done g c =
    brought_in_parts _ _ g.W.Write.contents c.args.is_all c.args.order.now c.args.text.now c.as_slice.result.now c.args.writer.now c.import_parts_into_file.new.writer
    c.import_parts_into_file.result c.if-is_all.true c.as_slice.ensures c.import_parts_into_file.ensures.imported

pub returns-else-is_all-clause-done : goal.returns-else-is_all-clause-done
returns-else-is_all-clause-done g c =
    brought_whole _ _ g.W.Write.contents c.args.is_all c.args.order.now c.args.text.now c.as_slice-else-is_all.result.now c.args.writer.now c.import_into_file.new.writer
    c.import_into_file.result c.if-is_all.false c.as_slice-else-is_all.ensures c.import_into_file.ensures.imported

pub returns-then-is_all-clause-left : goal.returns-then-is_all-clause-left
returns-then-is_all-clause-left g c =
    let ensures = c.import_parts_into_file.ensures in
    cut_in_parts _ _ g.W.Write.contents c.args.is_all c.args.order.now c.args.text.now c.as_slice.result.now c.args.writer.now c.import_parts_into_file.new.writer
    c.import_parts_into_file.result c.if-is_all.true c.as_slice.ensures ensures.failed ensures.silent ensures.item

pub returns-else-is_all-clause-left : goal.returns-else-is_all-clause-left
returns-else-is_all-clause-left g c =
    let ensures = c.import_into_file.ensures in
    cut_whole _ _ g.W.Write.contents c.args.is_all c.args.order.now c.args.text.now c.as_slice-else-is_all.result.now c.args.writer.now c.import_into_file.new.writer
    c.import_into_file.result c.if-is_all.false c.as_slice-else-is_all.ensures ensures.failed ensures.silent ensures.item
