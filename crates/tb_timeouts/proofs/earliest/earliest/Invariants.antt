use Rattle.tb_timeouts.proofs.EarliestBelow.{EarliestBelow}
use Rattle.tb_timeouts.specs.Stage.{end_of}
use Rattle.tb_timeouts.proofs.earliest.earliest.Given as goal

-- what is found among the places that were looked at
abbrev pub invariant-loop-place : goal.invariant-loop-place
invariant-loop-place l = EarliestBelow (end_of l.limits) l.stages l.place l.found
