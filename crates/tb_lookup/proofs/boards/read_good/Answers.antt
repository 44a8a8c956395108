use Rattle.std.proofs.Common.{◌≡◌, ◌∙◌, subst, sym}
use Rattle.std.proofs.lemmas.Result.{IfOk-weaker}
use Rattle.sqlite.specs.Held.{state}
use Rattle.tb_rows.specs.Rows.{board_row}
use Rattle.tb_lookup.specs.Reopening.{OfBoard}
use Rattle.tb_lookup.proofs.WorldRead.{board_never, board_read}
use Rattle.std.proofs.lemmas.Result.{err_from_is_err_and}
use Rattle.tb_board.specs.Good.{IsGood}
use Rattle.tb_board.specs.declared.board.Board.{Board}
use Rattle.tb_sql_tables.proofs.Failing.{faults_then}
use Rattle.tb_lookup.proofs.Excused.{board_by_content, board_later, err_told, same_err, unread}
use Rattle.tb_lookup.proofs.Standing.{before_then}
use Rattle.tb_lookup.proofs.boards.read_good.Goals as goal

pub returns-in-Ok-clause-found : goal.returns-in-Ok-clause-found
returns-in-Ok-clause-found g c =
    let old = state g.S.Store c.args.conn.now in
    let ahead = state g.S.Store c.horizon_row_at.new.conn in
    let mid = state g.S.Store c.task_rows.new.conn in
    let new = state g.S.Store c.gone_rows.new.conn in
    let read : OfBoard old new (λ w b. c.args.row.now ≡ board_row b → c.in-Ok.board ≡ b) =
    board_read old ahead mid new c.args.row.now c.in_ok-horizon.horizon c.as_slice.result.now c.as_slice-2.result.now c.in-Ok.board c.in_ok-horizon.ensures.found
    (rw c.as_slice.ensures c.in_ok-tasks.ensures.found) (rw c.as_slice-2.ensures c.in_ok-gone.ensures.found) c.in_ok-horizon.ensures.same c.in_ok-tasks.ensures.same c.in_ok-gone.ensures.same c.in-Ok.ensures in
    IfOk-weaker c.hold_to_good.result (λ held. held ≡ c.in-Ok.board) (λ held. OfBoard old new (λ w b. c.args.row.now ≡ board_row b → held ≡ b))
    (λ held same clean w content b reads stands is. same ∙ read clean w content b reads stands is) c.hold_to_good.ensures.same

pub returns-in_err-horizon-clause-excused : goal.returns-in_err-horizon-clause-excused
returns-in_err-horizon-clause-excused g c is =
    let here = c.in_err-horizon.ensures in
    let p = err_from_is_err_and c.from_residual.result c.from_residual.ensures.1 in
    board_by_content (state g.S.Store c.args.conn.now) (state g.S.Store c.horizon_row_at.new.conn) (λ (b : Board). c.args.row.now ≡ board_row b) here.same (here.excused (err_told c.from_residual.result p.0 _ p.1 p.2 is))

pub returns-in_err-tasks-clause-excused : goal.returns-in_err-tasks-clause-excused
returns-in_err-tasks-clause-excused g c is =
    let one = c.in_ok-horizon.ensures in
    let here = c.in_err-tasks.ensures in
    let p = err_from_is_err_and c.from_residual-in_err-tasks.result c.from_residual-in_err-tasks.ensures.1 in
    board_later (state g.S.Store c.args.conn.now) (state g.S.Store c.horizon_row_at.new.conn) (state g.S.Store c.task_rows.new.conn) (λ (b : Board). c.args.row.now ≡ board_row b) one.same one.faults here.same.clean here.faults
    (here.excused (err_told c.from_residual-in_err-tasks.result p.0 _ p.1 p.2 is))

pub returns-in_err-tasks-clause-faults : goal.returns-in_err-tasks-clause-faults
returns-in_err-tasks-clause-faults g c =
    faults_then _ (state g.S.Store c.horizon_row_at.new.conn) _ c.in_ok-horizon.ensures.faults c.in_err-tasks.ensures.same.clean c.in_err-tasks.ensures.faults

pub returns-in_err-gone-clause-excused : goal.returns-in_err-gone-clause-excused
returns-in_err-gone-clause-excused g c is =
    let old = state g.S.Store c.args.conn.now in
    let ahead = state g.S.Store c.horizon_row_at.new.conn in
    let mid = state g.S.Store c.task_rows.new.conn in
    let one = c.in_ok-horizon.ensures in
    let two = c.in_ok-tasks.ensures in
    let here = c.in_err-gone.ensures in
    let p = err_from_is_err_and c.from_residual-in_err-gone.result c.from_residual-in_err-gone.ensures.1 in
    board_later old mid (state g.S.Store c.gone_rows.new.conn) (λ (b : Board). c.args.row.now ≡ board_row b) (before_then old ahead mid one.same two.same) (faults_then old ahead mid one.faults two.same.clean two.faults) here.same.clean here.faults
    (here.excused (err_told c.from_residual-in_err-gone.result p.0 _ p.1 p.2 is))

pub returns-in_err-gone-clause-faults : goal.returns-in_err-gone-clause-faults
returns-in_err-gone-clause-faults g c =
    let old = state g.S.Store c.args.conn.now in
    let ahead = state g.S.Store c.horizon_row_at.new.conn in
    let mid = state g.S.Store c.task_rows.new.conn in
    let one = c.in_ok-horizon.ensures in
    let two = c.in_ok-tasks.ensures in
    let here = c.in_err-gone.ensures in
    faults_then old mid _ (faults_then old ahead mid one.faults two.same.clean two.faults) here.same.clean here.faults

pub returns-in-Ok-clause-faults : goal.returns-in-Ok-clause-faults
returns-in-Ok-clause-faults g c =
    let old = state g.S.Store c.args.conn.now in
    let ahead = state g.S.Store c.horizon_row_at.new.conn in
    let mid = state g.S.Store c.task_rows.new.conn in
    let one = c.in_ok-horizon.ensures in
    let two = c.in_ok-tasks.ensures in
    let here = c.in_ok-gone.ensures in
    faults_then old mid _ (faults_then old ahead mid one.faults two.same.clean two.faults) here.same.clean here.faults

pub returns-clause-faults : goal.returns-clause-faults
returns-clause-faults g c =
    let old = state g.S.Store c.args.conn.now in
    let ahead = state g.S.Store c.horizon_row_at.new.conn in
    let mid = state g.S.Store c.task_rows.new.conn in
    let one = c.in_ok-horizon.ensures in
    let two = c.in_ok-tasks.ensures in
    let here = c.in_ok-gone.ensures in
    faults_then old mid _ (faults_then old ahead mid one.faults two.same.clean two.faults) here.same.clean here.faults

pub returns-clause-excused : goal.returns-clause-excused
returns-clause-excused g c is clean ready w content b read stands good row_is =
    let old = state g.S.Store c.args.conn.now in
    let ahead = state g.S.Store c.horizon_row_at.new.conn in
    let mid = state g.S.Store c.task_rows.new.conn in
    let new = state g.S.Store c.gone_rows.new.conn in
    absurd (board_never old ahead mid new c.args.row.now c.in_ok-horizon.horizon c.as_slice.result.now c.as_slice-2.result.now c.in_ok-horizon.ensures.found
    (rw c.as_slice.ensures c.in_ok-tasks.ensures.found) (rw c.as_slice-2.ensures c.in_ok-gone.ensures.found) c.in_ok-horizon.ensures.same c.in_ok-tasks.ensures.same c.in_ok-gone.ensures.same
    (unread c.in-Err.fault c.fault_of.result _ c.in-Err.ensures c.fault_of.ensures.memory (same_err _ _ is)) clean w content b read stands row_is)

pub returns-in-Ok-clause-excused : goal.returns-in-Ok-clause-excused
returns-in-Ok-clause-excused g c is clean ready w content b read stands good row_is =
    let old = state g.S.Store c.args.conn.now in
    let ahead = state g.S.Store c.horizon_row_at.new.conn in
    let mid = state g.S.Store c.task_rows.new.conn in
    let new = state g.S.Store c.gone_rows.new.conn in
    let same : c.in-Ok.board ≡ b =
    board_read old ahead mid new c.args.row.now c.in_ok-horizon.horizon c.as_slice.result.now c.as_slice-2.result.now c.in-Ok.board c.in_ok-horizon.ensures.found
    (rw c.as_slice.ensures c.in_ok-tasks.ensures.found) (rw c.as_slice-2.ensures c.in_ok-gone.ensures.found) c.in_ok-horizon.ensures.same c.in_ok-tasks.ensures.same c.in_ok-gone.ensures.same c.in-Ok.ensures clean w content b read stands row_is in
    absurd (c.hold_to_good.ensures.refused is (subst IsGood (sym same) good))
