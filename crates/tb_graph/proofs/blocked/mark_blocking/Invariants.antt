use Rattle.std.proofs.Common.{◌≡◌}
use Rattle.tb_graph.proofs.Blocking.{blocking_after}
use Rattle.tb_graph.proofs.blocked.mark_blocking.Given as goal

abbrev pub invariant-loop-node : goal.invariant-loop-node
invariant-loop-node l = l.marks ≡ blocking_after l.targets l.open_nodes l.fn.marks l.node
