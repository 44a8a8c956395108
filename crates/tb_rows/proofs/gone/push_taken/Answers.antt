use Rattle.std.proofs.Common.{arith, sym, ◌∙◌}
use Rattle.tb_board.proofs.Linking.{place_within}
use Rattle.tb_rows.proofs.gone.push_taken.Goals as goal

pub overflow_cast-place : goal.overflow_cast-place
overflow_cast-place c =
    let fits = place_within c.args.board.now.tasks c.args.template c.in-Some.place (sym c.place_of.ensures ∙ c.in-Some.is) in
    omega (arith, fits, c.requires.few)

pub overflow_add-place : goal.overflow_add-place
overflow_add-place c =
    let fits = place_within c.args.board.now.tasks c.args.template c.in-Some.place (sym c.place_of.ensures ∙ c.in-Some.is) in
    omega (arith, fits, c.requires.few)
