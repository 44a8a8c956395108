use Rattle.std.proofs.Common.{◌-◌, length}
use Rattle.tb_http.specs.OpenHead.{IsOpenHead}
use Rattle.tb_http.proofs.open_head.stays_open.Given as goal

abbrev pub invariant-loop-end : goal.invariant-loop-end
invariant-loop-end l = IsOpenHead l.held l.so_far

abbrev pub decreases-loop-end : goal.decreases-loop-end
decreases-loop-end l = length l.held - l.so_far.searched
