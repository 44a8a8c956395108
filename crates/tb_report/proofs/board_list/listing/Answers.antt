use Rattle.std.proofs.Common.{◌≡◌, IfOk, subst, sym}
use Rattle.tb_board.specs.declared.board.Board.{Board}
use Rattle.tb_board.proofs.FirstWaits.{is_awake}
use Rattle.tb_report.specs.Lists.{listing_awake}
use Rattle.tb_report.proofs.board_list.listing.Goals as goal

pub returns-then-not-may_wake : goal.returns-then-not-may_wake
returns-then-not-may_wake c =
    subst (λ (b : Board). IfOk c.list_awake.result (λ text. text ≡ listing_awake b c.args.at))
    (sym (is_awake c.args.board.now c.args.at (c.may_wake.ensures c.if-not-may_wake.true))) c.list_awake.ensures
