use Rattle.std.proofs.lemmas.Result.{err_from_is_err_and}
use Rattle.sqlite.specs.Held.{state}
use Rattle.tb_sql_tables.proofs.Changing.{where_value}
use Rattle.tb_sql.proofs.TaskRows.{select_tasks, select_tasks_excused, select_tasks_read}
use Rattle.tb_sql_tables.specs.Read.{IsTaskRow}
use Rattle.tb_sql_tables.proofs.Failing.{reading_excused}
use Rattle.tb_sql.proofs.tasks.select_tasks.Goals as goal

pub returns-clause-found : goal.returns-clause-found
returns-clause-found g c clean =
    let old = state g.S.Store c.args.tx.now.conn.now in
    let new = state g.S.Store c.find_rows.new.tx.conn.now in
    let rows = c.in_ok-rows.rows.items in
    where_value c.read_all.result _ _ (rw c.deref.ensures.value at c.read_all.ensures.value) (select_tasks old new c.args.board rows (rw (c.params-to_sql.ensures) at (c.in_ok-rows.ensures.shown clean)))

pub returns-clause-excused : goal.returns-clause-excused
returns-clause-excused g c clean =
    let old = state g.S.Store c.args.tx.now.conn.now in
    let new = state g.S.Store c.find_rows.new.tx.conn.now in
    let rows = c.in_ok-rows.rows.items in
    reading_excused IsTaskRow old new rows c.read_all.result (select_tasks_read old new c.args.board rows (rw (c.params-to_sql.ensures) at (c.in_ok-rows.ensures.shown clean))) (rw c.deref.ensures.value at c.read_all.ensures.refused)

pub returns-in_err-rows-clause-excused : goal.returns-in_err-rows-clause-excused
returns-in_err-rows-clause-excused g c clean =
    let old = state g.S.Store c.args.tx.now.conn.now in
    let new = state g.S.Store c.find_rows.new.tx.conn.now in
    let p = err_from_is_err_and c.from_residual.result c.from_residual.ensures.1 in
    rw (p.1, p.2) (select_tasks_excused old new c.args.board _ (rw (c.params-to_sql.ensures) at (c.in_err-rows.ensures.refused clean)))
