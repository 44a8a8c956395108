use Rattle.sqlite.specs.Held.{state}
use Rattle.tb_lookup.proofs.StoredBoards.{board_fails, board_stored, none_stored, number_is}
use Rattle.std.proofs.lemmas.Result.{err_from_is_err_and}
use Rattle.tb_sql_tables.proofs.Failing.{faults_then}
use Rattle.tb_lookup.proofs.Excused.{by_content, err_told, never}
use Rattle.tb_lookup.proofs.boards.stored_board.Goals as goal

pub returns-in_default-clause-found : goal.returns-in_default-clause-found
returns-in_default-clause-found g c =
    none_stored (state g.S.Store c.args.conn.now) (state g.S.Store c.board_row_at.new.conn) c.args.number (rw c.in_default.is at c.in_ok-row.ensures.found)

pub returns-clause-found : goal.returns-clause-found
returns-clause-found g c =
    board_stored c.rows_are_found_again.ensures (state g.S.Store c.args.conn.now) (state g.S.Store c.board_row_at.new.conn) (state g.S.Store c.read_good.new.conn) c.args.number c.in-Some.row c.in_ok-board.board
    (rw c.in-Some.is at c.in_ok-row.ensures.found) c.in_ok-board.ensures.found c.in_ok-row.ensures.same c.in_ok-board.ensures.same

pub returns-in_err-row-clause-excused : goal.returns-in_err-row-clause-excused
returns-in_err-row-clause-excused g c is =
    let here = c.in_err-row.ensures in
    let p = err_from_is_err_and c.from_residual.result c.from_residual.ensures.1 in
    by_content (state g.S.Store c.args.conn.now) (state g.S.Store c.board_row_at.new.conn) here.same (here.excused (err_told c.from_residual.result p.0 _ p.1 p.2 is))

pub returns-in_err-board-clause-excused : goal.returns-in_err-board-clause-excused
returns-in_err-board-clause-excused g c is =
    let one = c.in_ok-row.ensures in
    let here = c.in_err-board.ensures in
    let p = err_from_is_err_and c.from_residual-in_err-board.result c.from_residual-in_err-board.ensures.1 in
    board_fails c.rows_are_found_again.ensures (state g.S.Store c.args.conn.now) (state g.S.Store c.board_row_at.new.conn) (state g.S.Store c.read_good.new.conn) c.args.number c.in-Some.row
    (rw c.in-Some.is at one.found) one.same one.faults here.same here.faults (here.excused (err_told c.from_residual-in_err-board.result p.0 _ p.1 p.2 is))

pub returns-in_err-board-clause-faults : goal.returns-in_err-board-clause-faults
returns-in_err-board-clause-faults g c =
    faults_then _ (state g.S.Store c.board_row_at.new.conn) _ c.in_ok-row.ensures.faults c.in_err-board.ensures.same.clean c.in_err-board.ensures.faults

pub returns-clause-faults : goal.returns-clause-faults
returns-clause-faults g c =
    faults_then _ (state g.S.Store c.board_row_at.new.conn) _ c.in_ok-row.ensures.faults c.in_ok-board.ensures.same.clean c.in_ok-board.ensures.faults

pub returns-then-get-number-clause-excused : goal.returns-then-get-number-clause-excused
returns-then-get-number-clause-excused g c is =
    let old = state g.S.Store c.args.conn.now in
    let new = state g.S.Store c.read_good.new.conn in
    never old new (λ clean s stored.
    let found = board_stored c.rows_are_found_again.ensures old (state g.S.Store c.board_row_at.new.conn) new c.args.number c.in-Some.row c.in_ok-board.board
    (rw c.in-Some.is at c.in_ok-row.ensures.found) c.in_ok-board.ensures.found c.in_ok-row.ensures.same c.in_ok-board.ensures.same clean s stored in
    let number = number_is s.world c.args.number c.in_ok-board.board found in
    c.if-get-number.true (rw c.get.ensures number))
