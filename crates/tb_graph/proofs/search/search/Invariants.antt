use Rattle.std.proofs.Common.{◌+◌, length}
use Rattle.tb_graph.proofs.Marking.{unmarked}
use Rattle.tb_graph.proofs.Searching.{Searched}
use Rattle.tb_graph.proofs.search.search.Given as goal

abbrev pub invariant-loop-node : goal.invariant-loop-node
invariant-loop-node l = Searched l.targets l.from l.marks l.work.items

-- each turn takes a node off the work, and adds one for each new mark
abbrev pub decreases-loop-node : goal.decreases-loop-node
decreases-loop-node l = unmarked l.marks + length l.work.items
