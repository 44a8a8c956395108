use Rattle.std.proofs.Common.{take}
use Rattle.tb_good.specs.Taken.{AreCounts}
use Rattle.tb_good.proofs.runs.counts_of.Given as goal

abbrev pub invariant-loop-place : goal.invariant-loop-place
invariant-loop-place l = AreCounts (take l.place-index l.places) l.counts
