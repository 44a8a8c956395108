use Rattle.std.proofs.Common.{arith, sym, ◌∙◌}
use Rattle.tb_board.proofs.Linking.{place_within}
use Rattle.tb_board.proofs.links.add_link.Goals as goal

pub add-requires-clause-to : goal.add-requires-clause-to
add-requires-clause-to c =
    let found = rw c.in-Some.is at c.get.ensures.value in
    let fits = place_within c.args.tasks.now c.args.id c.in-Some.to.now (sym (c.requires.places c.args.id) ∙ sym found) in
    omega (arith, fits, c.requires.nodes)
