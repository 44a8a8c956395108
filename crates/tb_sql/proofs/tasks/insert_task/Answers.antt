use Rattle.sqlite.specs.Held.{state}
use Rattle.tb_sql_tables.proofs.Changing.{where_ok}
use Rattle.tb_sql_tables.proofs.Masks.{mask_is}
use Rattle.tb_sql.proofs.TaskRows.{insert_task}
use Rattle.tb_sql.proofs.tasks.insert_task.Goals as goal

pub returns-clause-put : goal.returns-clause-put
returns-clause-put g c clean inside =
    where_ok c.run.result (λ ran. insert_task (state g.S.Store c.args.tx.now.conn.now) (state g.S.Store c.run.new.tx.conn.now) c.args.task.now c.task_fits.ensures c.identifier_bytes-uuid.ensures.low ran)
    (rw (c.params-to_sql.ensures, c.params-to_sql-2.ensures, c.params-to_sql-3.ensures, c.params-to_sql-4.ensures, c.params-to_sql-5.ensures, mask_is (λ m. m.now) c.lent-mask.result, c.lent-mask.ensures, c.as_slice-uuid.ensures, c.identifier_bytes-uuid.ensures.bytes, c.as_str-body.ensures) at (c.run.ensures.ran clean inside))
