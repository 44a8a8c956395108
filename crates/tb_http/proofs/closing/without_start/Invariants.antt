use Rattle.std.proofs.Common.{◌≡◌, length}
use Rattle.tb_http.specs.Closing as closing
use Rattle.tb_http.proofs.closing.without_start.Given as goal

abbrev pub invariant-loop-first : goal.invariant-loop-first
invariant-loop-first l = closing.without_start l.rest ≡ closing.without_start l.text

abbrev pub decreases-loop-first : goal.decreases-loop-first
decreases-loop-first l = length l.rest
