use Rattle.std.proofs.Common.{◌≡◌, length}
use Rattle.tb_cleaning.specs.Steps.{after_spaces}
use Rattle.tb_cleaning.proofs.steps.after_spaces.Given as goal

abbrev pub invariant-loop-first : goal.invariant-loop-first
invariant-loop-first l = after_spaces l.rest ≡ after_spaces l.fn.text

abbrev pub decreases-loop-first : goal.decreases-loop-first
decreases-loop-first l = length l.rest
