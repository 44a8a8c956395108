use Rattle.std.proofs.Common.{◌≡◌, length}
use Rattle.tb_http.specs.Closing as closing
use Rattle.tb_http.proofs.closing.without_end.Given as goal

abbrev pub invariant-loop-last : goal.invariant-loop-last
invariant-loop-last l = closing.without_end l.rest ≡ closing.without_end l.text

abbrev pub decreases-loop-last : goal.decreases-loop-last
decreases-loop-last l = length l.rest
