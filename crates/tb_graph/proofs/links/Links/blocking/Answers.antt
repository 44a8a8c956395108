use Rattle.std.proofs.Common.{subst, sym}
use Rattle.tb_graph.specs.Walk.{IsWellFormed}
use Rattle.tb_graph.proofs.links.Links.blocking.Goals as goal

pub blocking_nodes-requires : goal.blocking_nodes-requires
blocking_nodes-requires c = record { well_formed = subst IsWellFormed (sym c.as_slice.ensures.value) c.self.invariant }
