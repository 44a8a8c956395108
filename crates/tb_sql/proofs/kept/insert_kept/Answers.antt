use Rattle.sqlite.specs.Held.{state}
use Rattle.tb_sql_tables.proofs.Changing.{where_ok}
use Rattle.tb_sql.proofs.KeptRows.{insert_kept}
use Rattle.tb_sql.proofs.kept.insert_kept.Goals as goal

pub returns-clause-put : goal.returns-clause-put
returns-clause-put g c clean inside =
    where_ok c.run.result (λ ran. insert_kept (state g.S.Store c.args.tx.now.conn.now) (state g.S.Store c.run.new.tx.conn.now) c.args.kept.now c.kept_fits.ensures c.identifier_bytes-id.ensures.low ran)
    (rw (c.params-to_sql.ensures, c.params-to_sql-2.ensures, c.params-to_sql-3.ensures, c.params-to_sql-4.ensures, c.params-to_sql-5.ensures, c.params-to_sql-6.ensures, c.as_slice-id.ensures, c.identifier_bytes-id.ensures.bytes, c.as_slice-content.ensures, c.as_str-body.ensures, c.from-number.ensures, c.from-status.ensures) at (c.run.ensures.ran clean inside))
