use Rattle.sqlite.specs.Held.{state}
use Rattle.tb_sql_tables.proofs.Changing.{where_ok}
use Rattle.tb_sql_tables.proofs.Masks.{mask_is}
use Rattle.tb_sql.proofs.TaskRows.{update_text}
use Rattle.tb_sql.proofs.tasks.update_text.Goals as goal

pub returns-clause-put : goal.returns-clause-put
returns-clause-put g c clean inside =
    where_ok c.run.result (update_text c.args.board c.args.place c.args.body.now c.args.mask.now (state g.S.Store c.args.tx.now.conn.now) (state g.S.Store c.run.new.tx.conn.now) c.text_fits.ensures c.mask_fits.ensures)
    (rw (c.params-to_sql.ensures, c.params-to_sql-2.ensures, c.params-to_sql-3.ensures, c.params-to_sql-4.ensures, mask_is (λ m. m.now) c.lent-mask.result, c.lent-mask.ensures) at (c.run.ensures.ran clean inside))
