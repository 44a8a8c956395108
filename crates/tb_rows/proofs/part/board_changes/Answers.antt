use Rattle.std.proofs.Common.{subst}
use Rattle.std.specs.Prelude.{IfSome}
use Rattle.tb_rows.specs.Quick.{AreAllRows}
use Rattle.tb_rows.proofs.QuickRows.{all_are}
use Rattle.tb_rows.proofs.part.board_changes.Goals as goal

pub returns-in-Some : goal.returns-in-Some
returns-in-Some c =
    all_are c.args.people c.args.board.now c.args.changes.now c.in-Some.rows
    (subst (λ found. IfSome found (AreAllRows c.args.board.now c.args.changes.now)) c.in-Some.is c.in_ok-rows.ensures)
