use Rattle.std.proofs.Common.{subst, sym}
use Rattle.tb_graph.specs.Walk.{IsWellFormed}
use Rattle.tb_graph.proofs.links.Links.reaches.Goals as goal

pub reached-requires-clause-well_formed : goal.reached-requires-clause-well_formed
reached-requires-clause-well_formed c = subst IsWellFormed (sym c.as_slice.ensures.value) c.self.invariant
