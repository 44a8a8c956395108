use Rattle.std.proofs.Common.{subst, sym}
use Rattle.std.proofs.lemmas.Result.{IfOk-weaker}
use Rattle.tb_board.specs.Changing.{changed}
use Rattle.tb_rows.specs.Steps.{Leads}
use Rattle.tb_rows.proofs.Parts.{part_leads}
use Rattle.tb_rows.proofs.part.checked_rows.Goals as goal

pub returns-then-is_small : goal.returns-then-is_small
returns-then-is_small c =
    IfOk-weaker c.rows_of_part.result _ _ (λ rows is. record {
      leads = λ w of. subst (λ xs. Leads xs w (changed w c.args.changes.now)) (sym is) (part_leads w c.args.people c.args.part.now c.args.changes.now of);
      steps = λ few small. is;
    }) c.rows_of_part.ensures
