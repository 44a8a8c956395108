use Rattle.std.proofs.Common.{◌≡◌, drop}
use Rattle.tb_graph.specs.Taking.{counts_with}
use Rattle.tb_graph.proofs.acyclic.count_targets.Given as goal

-- the targets that are left make of the counts what all of them make of the first ones
abbrev pub invariant-loop-target : goal.invariant-loop-target
invariant-loop-target l = counts_with l.counts (drop l.target-index l.targets) ≡ counts_with l.fn.counts l.targets
