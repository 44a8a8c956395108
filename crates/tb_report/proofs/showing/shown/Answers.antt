use Rattle.std.proofs.Common.{◌≡◌, IfOk, subst, sym}
use Rattle.tb_board.specs.declared.board.Board.{Board}
use Rattle.tb_board.proofs.FirstWaits.{is_awake}
use Rattle.tb_report.specs.Showing.{shown_awake}
use Rattle.tb_report.proofs.showing.shown.Goals as goal

pub returns-then-not-may_wake : goal.returns-then-not-may_wake
returns-then-not-may_wake c =
    subst (λ (b : Board). IfOk c.shown_awake.result (λ tasks. tasks ≡ shown_awake b))
    (sym (is_awake c.args.board.now c.args.at (c.may_wake.ensures c.if-not-may_wake.true))) c.shown_awake.ensures
