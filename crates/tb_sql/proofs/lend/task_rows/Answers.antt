use Rattle.std.proofs.Common.{arith}
use Rattle.tb_sql_tables.proofs.Changing.{of_value}
use Rattle.tb_sql.proofs.Lent.{none_lent}
use Rattle.tb_sql.proofs.lend.task_rows.Goals as goal

pub returns-clause-begun : goal.returns-clause-begun
returns-clause-begun g c = of_value c.query.result c.query.ensures.survives c.query.ensures.begun (λ rows survives begun clean content stands.
    none_lent g.S.Store c.args.board content c.args.conn.now rows.conn.now (omega (arith, survives.clean)) stands (rw c.params-to_sql.ensures at (begun clean)))
