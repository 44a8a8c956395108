use Rattle.std.proofs.Common.{◌≡◌, [], replicate}
use Rattle.tb_graph.proofs.links.Links.new.Given as goal

abbrev pub invariant-loop : goal.invariant-loop
invariant-loop l = l.targets.items ≡ replicate l.counter []
