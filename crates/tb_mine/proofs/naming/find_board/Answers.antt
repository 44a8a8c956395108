use Rattle.std.proofs.Common.{rules, ◌≡◌, ◌∷◌, [], false, refl, subst, sym}
use Rattle.std.proofs.lemmas.Result.{IfOk-weaker}
use Rattle.tb_my.specs.Boards.{is_number}
use Rattle.tb_mine.specs.Naming.{IsFoundIf}
use Rattle.tb_mine.proofs.naming.find_board.Goals as goal

pub returns-clause-asked : goal.returns-clause-asked
returns-clause-asked g c =
    let name = c.args.name.now in
    let untold : is_number name ≡ false = search rules in
    IfOk-weaker c.number_of.result _ _
    (λ board p. (p.0 ∷ [], p.1, subst (λ b. IsFoundIf b name (p.0 ∷ []) board) (sym untold) (p.0, refl, p.2)))
    (rw c.as_str-2.ensures at c.number_of.ensures.asked)
