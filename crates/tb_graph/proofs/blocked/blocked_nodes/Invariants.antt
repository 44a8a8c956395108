use Rattle.tb_graph.specs.Blocked.{is_blocked}
use Rattle.tb_graph.specs.Marks.{AreMarks}
use Rattle.tb_graph.proofs.blocked.blocked_nodes.Given as goal

abbrev pub invariant-loop-node : goal.invariant-loop-node
invariant-loop-node l = AreMarks l.node (is_blocked l.targets l.open_nodes) l.marks.items
