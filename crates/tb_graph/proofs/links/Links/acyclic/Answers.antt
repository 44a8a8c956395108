use Rattle.std.proofs.Common.{◌↔◌, IfOk, IsTrue, subst, sym, ◌∙◌}
use Rattle.tb_graph.specs.Walk.{IsWellFormed, IsAcyclic}
use Rattle.tb_graph.proofs.links.Links.acyclic.Goals as goal

pub is_acyclic-requires : goal.is_acyclic-requires
is_acyclic-requires c = subst IsWellFormed (sym c.as_slice.ensures.value) c.self.invariant

pub returns : goal.returns
returns c =
    subst (λ g. IfOk c.is_acyclic.result (λ answer. IsTrue answer ↔ IsAcyclic g)) (c.as_slice.ensures.value ∙ c.self.view_is) c.is_acyclic.ensures
