use Rattle.std.proofs.Common.{◌≡◌, length}
use Rattle.tb_http.specs.Numerals as numerals
use Rattle.tb_http.proofs.numerals.significant.Given as goal

abbrev pub invariant-loop-first : goal.invariant-loop-first
invariant-loop-first l = numerals.significant l.rest ≡ numerals.significant l.digits

abbrev pub decreases-loop-first : goal.decreases-loop-first
decreases-loop-first l = length l.rest
