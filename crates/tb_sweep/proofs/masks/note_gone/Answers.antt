use Rattle.std.proofs.Common.{take}
use Rattle.std.proofs.lemmas.List.{take_more}
use Rattle.tb_sweep.proofs.Noting.{gone_next}
use Rattle.tb_sweep.proofs.masks.note_gone.Goals as goal

pub loop-place-preserved : goal.loop-place-preserved
loop-place-preserved c =
    rw (take_more c.args.gone.now c.loop-place.place-index c.place-item.result c.loop-place-test.true, ← c.place-item.is)
    (gone_next c.args.id (take c.loop-place.place-index c.args.gone.now) c.place-item.result c.args.marks.now c.loop-place.marks c.note_place.new.marks c.loop-place.invariant c.note_place.ensures)
