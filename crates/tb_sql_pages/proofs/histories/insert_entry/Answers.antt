use Rattle.std.specs.Int.{w64}
use Rattle.std.proofs.lemmas.Int.{to_z_pos}
use Rattle.sqlite.specs.Held.{state}
use Rattle.tb_sql_tables.proofs.Changing.{where_ok}
use Rattle.tb_sql_pages.proofs.HistoryRows.{insert_entry, place_bound}
use Rattle.tb_sql_pages.proofs.histories.insert_entry.Goals as goal

pub returns-clause-put : goal.returns-clause-put
returns-clause-put g c clean inside =
    let row = c.args.row.now in
    where_ok c.run.result (λ ran. insert_entry (state g.S.Store c.args.tx.now.conn.now) (state g.S.Store c.run.new.tx.conn.now) row c.entry_fits.ensures c.identifier_bytes-call.ensures.low ran)
    (rw (c.params-to_sql.ensures, c.params-to_sql-2.ensures, c.params-to_sql-3.ensures, c.params-to_sql-4.ensures, c.params-to_sql-5.ensures, c.params-to_sql-6.ensures, c.params-to_sql-7.ensures, c.in_ok-moment.ensures.value, to_z_pos w64 row.moment c.in_ok-moment.ensures.low, place_bound row.task, c.as_slice-call.ensures, c.identifier_bytes-call.ensures.bytes) at (c.run.ensures.ran clean inside))
