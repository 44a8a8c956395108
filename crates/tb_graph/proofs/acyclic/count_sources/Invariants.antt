use Rattle.tb_graph.proofs.Counting.{CountedUpTo}
use Rattle.tb_graph.proofs.acyclic.count_sources.Given as goal

abbrev pub invariant-loop-node : goal.invariant-loop-node
invariant-loop-node l = CountedUpTo l.targets l.node l.counts
