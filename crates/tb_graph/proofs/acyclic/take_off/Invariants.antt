use Rattle.std.proofs.Common.{◌+◌, length}
use Rattle.std.specs.List.{sum}
use Rattle.tb_graph.proofs.Taking.{Taking}
use Rattle.tb_graph.proofs.acyclic.take_off.Given as goal

abbrev pub invariant-loop-node : goal.invariant-loop-node
invariant-loop-node l = Taking l.targets l.counts l.taken l.work.items

-- each turn takes a node off the work, and adds one only for a count that is one less
abbrev pub decreases-loop-node : goal.decreases-loop-node
decreases-loop-node l = sum l.counts + length l.work.items
