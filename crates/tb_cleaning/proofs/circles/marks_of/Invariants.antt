use Rattle.std.proofs.Common.{◌≡◌}
use Rattle.tb_cleaning.specs.Circles.{circles_to}
use Rattle.tb_cleaning.proofs.circles.marks_of.Given as goal

abbrev pub invariant-loop-node : goal.invariant-loop-node
invariant-loop-node l = l.marks.items ≡ circles_to l.graph l.node
