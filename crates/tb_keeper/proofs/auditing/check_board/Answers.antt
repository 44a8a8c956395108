use Rattle.std.proofs.Common.{subst, filter}
use Rattle.std.proofs.lemmas.Result.{IfOk-weaker}
use Rattle.sqlite.specs.Held.{state}
use Rattle.tb_board.specs.declared.board.Board.{Board}
use Rattle.tb_sql.specs.Changes.{is_horizon}
use Rattle.tb_sql_tables.specs.Found.{IsOneOf}
use Rattle.tb_keeper.specs.Auditing.{IsCheckOfRow, IsTablesCheck, StandsFor}
use Rattle.tb_keeper.proofs.WholeCount.{with_horizon}
use Rattle.tb_keeper.proofs.auditing.check_board.Goals as goal

pub returns-clause-checked : goal.returns-clause-checked
returns-clause-checked g c =
    IfOk-weaker c.check_tables.result _ _
    (λ checked is.
    with_horizon (λ content. IsOneOf (filter (is_horizon c.args.row.now.id) content.horizon) c.in_ok-horizon.horizon) (λ content. (b : Board) → StandsFor content c.args.row.now b → IsTablesCheck content b checked)
    (state g.S.Store c.args.conn.now) (state g.S.Store c.horizon_row_at.new.conn) (state g.S.Store c.check_tables.new.conn) c.in_ok-horizon.ensures.same c.check_tables.ensures.same c.in_ok-horizon.ensures.found
    (λ clean content stands found b for_b. is clean content stands b for_b (subst (λ n. IsOneOf (filter (is_horizon n) content.horizon) c.in_ok-horizon.horizon) for_b.number found)))
    c.check_tables.ensures.checked

pub returns-clause-whole : goal.returns-clause-whole
returns-clause-whole g c =
    IfOk-weaker c.check_tables.result _ _
    (λ checked is.
    with_horizon (λ content. IsOneOf (filter (is_horizon c.args.row.now.id) content.horizon) c.in_ok-horizon.horizon) (λ content. IsCheckOfRow content c.args.row.now checked)
    (state g.S.Store c.args.conn.now) (state g.S.Store c.horizon_row_at.new.conn) (state g.S.Store c.check_tables.new.conn) c.in_ok-horizon.ensures.same c.check_tables.ensures.same c.in_ok-horizon.ensures.found is)
    c.check_tables.ensures.whole
