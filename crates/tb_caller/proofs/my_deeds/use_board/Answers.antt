use Rattle.std.proofs.Common.{rules, ◌∷◌, [], false, refl, subst, sym}
use Rattle.std.proofs.lemmas.Result.{IfOk-weaker}
use Rattle.tb_caller.specs.Mine.{IsKept}
use Rattle.tb_caller.proofs.my_deeds.use_board.Goals as goal

pub returns-clause-asked : goal.returns-clause-asked
returns-clause-asked g c =
    let contents = g.W.Write.contents in
    let look = rw c.as_str.ensures at c.in_ok-number_of.ensures.asked in
    let found = c.in_ok-number_of.field-0 in
    IfOk-weaker c.keep_board.result _ _
    (λ ok kept. (
      look.0 ∷ [],
      look.1,
      (
        look.0,
        refl,
        found,
        look.2,
        subst (λ b. IsKept b c.args.board.now (contents c.args.writer.now) (contents c.keep_board.new.writer) ok) (sym c.in-Some.is) kept,
      ),
    ))
    c.keep_board.ensures.kept

pub returns-in_default-clause-asked : goal.returns-in_default-clause-asked
returns-in_default-clause-asked g c =
    let contents = g.W.Write.contents in
    let look = rw c.as_str.ensures at c.in_ok-number_of.ensures.asked in
    let found = c.in_ok-number_of.field-0 in
    let kept : IsKept found c.args.board.now (contents c.args.writer.now) (contents c.args.writer.now) false = search rules in
    (look.0 ∷ [], look.1, (look.0, refl, found, look.2, kept))
