use Rattle.std.proofs.Common.{◌≡◌, ◌∙◌, ◌+◌, Some, ap}
use Rattle.sqlite.specs.Held.{state}
use Rattle.tb_keeper.proofs.LentRows.{none_lent, one_lent, row_never}
use Rattle.std.proofs.lemmas.Result.{err_from_is_err_and}
use Rattle.tb_lookup.proofs.Excused.{by_content, err_told, never}
use Rattle.tb_keeper.proofs.lending.find_row.Goals as goal

pub returns-in_default-2-clause-found : goal.returns-in_default-2-clause-found
returns-in_default-2-clause-found g c =
    let at : c.in-Some.place ≡ c.args.behind + 1 = c.in-Some.ensures.1 in
    none_lent (state g.S.Store c.args.conn.now) (state g.S.Store c.task_row_at.new.conn) c.args.board c.args.behind c.in-Some.place at (rw c.in_default-2.is at c.in_ok-row.ensures.found)

pub returns-clause-found : goal.returns-clause-found
returns-clause-found g c clean s stored =
    let at : c.in-Some.place ≡ c.args.behind + 1 = c.in-Some.ensures.1 in
    ap Some c.row_with.ensures
    ∙ one_lent c.ids_are_read.ensures (state g.S.Store c.args.conn.now) (state g.S.Store c.task_row_at.new.conn) c.args.board c.args.behind c.in-Some.place c.in-Some-2.row c.in_ok-task.task at
    (rw c.in-Some-2.is at c.in_ok-row.ensures.found) c.in_ok-task.ensures.read clean s stored

pub returns-in_err-row-clause-excused : goal.returns-in_err-row-clause-excused
returns-in_err-row-clause-excused g c is few =
    let here = c.in_err-row.ensures in
    let p = err_from_is_err_and c.from_residual.result c.from_residual.ensures.1 in
    by_content (state g.S.Store c.args.conn.now) (state g.S.Store c.task_row_at.new.conn) here.same (here.excused (err_told c.from_residual.result p.0 _ p.1 p.2 is))

pub returns-in_err-task-clause-excused : goal.returns-in_err-task-clause-excused
returns-in_err-task-clause-excused g c is few =
    let at : c.in-Some.place ≡ c.args.behind + 1 = c.in-Some.ensures.1 in
    let old = state g.S.Store c.args.conn.now in
    let new = state g.S.Store c.task_row_at.new.conn in
    let p = err_from_is_err_and c.from_residual-in_err-task.result c.from_residual-in_err-task.ensures.1 in
    never old new (row_never c.ids_are_read.ensures old new c.args.board c.args.behind c.in-Some.place c.in-Some-2.row at (rw c.in-Some-2.is at c.in_ok-row.ensures.found)
    (c.in_err-task.ensures.refused (err_told c.from_residual-in_err-task.result p.0 _ p.1 p.2 is)))
