use Rattle.tb_good.proofs.Numbering.{AreFrom}
use Rattle.tb_good.proofs.worlds.are_numbered.Given as goal

abbrev pub invariant-loop-place : goal.invariant-loop-place
invariant-loop-place l = AreFrom 1 l.boards l.place
