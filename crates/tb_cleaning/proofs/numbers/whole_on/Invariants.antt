use Rattle.std.proofs.Common.{◌≡◌, length}
use Rattle.tb_cleaning.specs.Numbers.{whole_on}
use Rattle.tb_cleaning.proofs.numbers.whole_on.Given as goal

abbrev pub invariant-loop-first : goal.invariant-loop-first
invariant-loop-first l = whole_on l.number l.rest ≡ whole_on l.fn.start l.fn.digits

abbrev pub decreases-loop-first : goal.decreases-loop-first
decreases-loop-first l = length l.rest
