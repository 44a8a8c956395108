use Rattle.tb_graph.proofs.WellFormed.{well_formed_blank}
use Rattle.tb_graph.proofs.links.Links.new.Goals as goal

pub invariant_of-result : goal.invariant_of-result
invariant_of-result c = well_formed_blank c.loop.targets.items c.loop.counter c.loop.invariant
