use Rattle.std.proofs.Common.{Bor, Option, subst}
use Rattle.std.specs.Option.{option_map}
use Rattle.std.proofs.lemmas.Result.{IfOk-weaker}
use Rattle.tb_board.specs.declared.board.Board.{Board}
use Rattle.tb_rows.specs.Part.{IsPartOf, part_of_board}
use Rattle.tb_rows.proofs.part.part_changes.Goals as goal

pub returns-in-Some-clause-leads : goal.returns-in-Some-clause-leads
returns-in-Some-clause-leads c =
    IfOk-weaker c.board_changes.result _ _
    (λ rows are w of. are.leads w (subst (λ (o : Option (Bor Board)). IsPartOf w c.args.people (part_of_board (option_map (λ b. b.now) o) c.args.changes.now) c.args.changes.now) c.in-Some.is of))
    c.board_changes.ensures

pub returns-in-None-clause-leads : goal.returns-in-None-clause-leads
returns-in-None-clause-leads c =
    IfOk-weaker c.checked_rows.result _ _
    (λ rows are w of. are.leads w (subst (λ (o : Option (Bor Board)). IsPartOf w c.args.people (part_of_board (option_map (λ b. b.now) o) c.args.changes.now) c.args.changes.now) c.in-None.is of))
    c.checked_rows.ensures
