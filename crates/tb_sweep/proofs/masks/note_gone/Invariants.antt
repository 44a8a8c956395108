use Rattle.std.proofs.Common.{take}
use Rattle.tb_sweep.specs.Masks.{gone_mark, AreNoted}
use Rattle.tb_sweep.proofs.masks.note_gone.Given as goal

abbrev pub invariant-loop-place : goal.invariant-loop-place
invariant-loop-place l = AreNoted (gone_mark l.id (take l.place-index l.gone)) l.fn.marks l.marks
