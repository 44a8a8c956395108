use Rattle.sqlite.specs.Held.{state}
use Rattle.tb_sql_tables.proofs.Changing.{where_value}
use Rattle.tb_sql_pages.specs.Read.{history_of}
use Rattle.tb_sql_pages.proofs.Turned.{map-reverse}
use Rattle.tb_sql_pages.proofs.HistoryRows.{entries_of_task}
use Rattle.tb_sql_pages.proofs.histories.entries_of_task.Goals as goal

pub returns-clause-found : goal.returns-clause-found
returns-clause-found g c clean =
    let old = state g.S.Store c.args.tx.now.conn.now in
    let new = state g.S.Store c.find_rows.new.tx.conn.now in
    let rows = c.in_ok-rows.rows.items in
    where_value c.read_entries.result _ _ (rw (c.deref.ensures.value, c.reverse.ensures.items, map-reverse history_of rows) at c.read_entries.ensures)
    (entries_of_task old new c.args.board c.args.place rows (rw (c.params-to_sql.ensures, c.params-to_sql-2.ensures) at (c.in_ok-rows.ensures.shown clean)))
