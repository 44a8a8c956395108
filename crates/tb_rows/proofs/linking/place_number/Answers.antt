use Rattle.std.proofs.Common.{arith, sym, ◌∙◌}
use Rattle.tb_board.proofs.Linking.{place_within}
use Rattle.tb_rows.proofs.linking.place_number.Goals as goal

pub overflow_cast-result : goal.overflow_cast-result
overflow_cast-result c =
    let fits = place_within c.args.board.now.tasks c.args.id c.in-Some.place (sym c.place_of.ensures ∙ c.in-Some.is) in
    omega (arith, fits, c.requires.few)

pub overflow_add-result : goal.overflow_add-result
overflow_add-result c =
    let fits = place_within c.args.board.now.tasks c.args.id c.in-Some.place (sym c.place_of.ensures ∙ c.in-Some.is) in
    omega (arith, fits, c.requires.few)
