use Rattle.sqlite.specs.Held.{state}
use Rattle.tb_sql_tables.proofs.Changing.{where_ok}
use Rattle.tb_sql_tables.proofs.Masks.{mask_is}
use Rattle.tb_sql.proofs.TaskRows.{update_mask}
use Rattle.tb_sql.proofs.tasks.update_mask.Goals as goal

pub returns-clause-put : goal.returns-clause-put
returns-clause-put g c clean inside =
    where_ok c.run.result (update_mask c.args.board c.args.place c.args.mask.now (state g.S.Store c.args.tx.now.conn.now) (state g.S.Store c.run.new.tx.conn.now) c.mask_fits.ensures)
    (rw (c.params-to_sql.ensures, c.params-to_sql-2.ensures, c.params-to_sql-3.ensures, mask_is (λ m. m.now) c.lent-mask.result, c.lent-mask.ensures) at (c.run.ensures.ran clean inside))
