use Rattle.sqlite.specs.Held.{state}
use Rattle.std.proofs.lemmas.Result.{IfOk-weaker}
use Rattle.tb_keeper.proofs.WholeCount.{row_checked, row_whole}
use Rattle.tb_keeper.proofs.auditing.check_row.Goals as goal

pub returns-clause-checked : goal.returns-clause-checked
returns-clause-checked g c =
    IfOk-weaker c.check_history.result _ _
    (λ checked. row_checked (state g.S.Store c.args.conn.now) (state g.S.Store c.hold_roles.new.conn) (state g.S.Store c.check_board.new.conn) (state g.S.Store c.check_history.new.conn) c.args.row.now c.in_ok-tables.tables checked
    c.in_ok-hold_roles.ensures.same c.in_ok-tables.ensures.same c.check_history.ensures.same c.in_ok-tables.ensures.checked)
    c.check_history.ensures.checked

pub returns-clause-whole : goal.returns-clause-whole
returns-clause-whole g c =
    IfOk-weaker c.check_history.result _ _
    (λ checked. row_whole (state g.S.Store c.args.conn.now) (state g.S.Store c.hold_roles.new.conn) (state g.S.Store c.check_board.new.conn) (state g.S.Store c.check_history.new.conn) c.args.people c.args.row.now c.in_ok-tables.tables checked
    c.in_ok-hold_roles.ensures.same c.in_ok-tables.ensures.same c.check_history.ensures.same c.in_ok-hold_roles.ensures.owned c.in_ok-tables.ensures.whole)
    c.check_history.ensures.checked
