use Rattle.std.proofs.Common.{◌∙◌}
use Rattle.std.proofs.lemmas.Result.{IfOk-weaker}
use Rattle.tb_board.specs.Templates.{count}
use Rattle.tb_sweep.proofs.Noting.{mask_is}
use Rattle.tb_sweep.proofs.masks.filled_mask.Goals as goal

pub returns : goal.returns
returns c =
    let b = c.args.board.now in
    let id = c.args.id in
    let instances = rw c.as_slice.ensures at c.note_instances.ensures in
    let gone = rw c.as_slice-2.ensures at c.note_gone.ensures in
    IfOk-weaker c.written_marks.result _ _
    (λ text is. is ∙ mask_is b id (count b id) c.args.marks.now c.note_instances.new.marks c.note_gone.new.marks c.requires instances gone)
    c.written_marks.ensures
