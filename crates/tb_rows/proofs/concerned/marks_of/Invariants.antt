use Rattle.std.proofs.Common.{length, take}
use Rattle.tb_rows.specs.Marks.{AreMarks}
use Rattle.tb_rows.proofs.concerned.marks_of.Given as goal

abbrev pub invariant-loop-place : goal.invariant-loop-place
invariant-loop-place l = AreMarks (take l.place-index l.places) (length l.marks.items) l.marks.items
