use Rattle.std.proofs.Common.{arith, subst, sym}
use Rattle.tb_graph.specs.Taking.{AreTaken}
use Rattle.tb_graph.proofs.Sources.{decides}
use Rattle.tb_graph.proofs.acyclic.is_acyclic.Goals as goal

pub returns : goal.returns
returns c =
    let taken = subst (AreTaken c.args.targets.now) (sym c.deref.ensures.value) c.in_ok-taken.ensures in
    let both = decides c.args.targets.now c.deref.result.now taken in
    let size = taken.size in (
      λ all. both.0 (λ v fits. c.are_all_taken.ensures.0 all v (omega (arith, size, fits))),
      λ acyclic. c.are_all_taken.ensures.1 (λ v fits. both.1 acyclic v (omega (arith, size, fits))),
    )
