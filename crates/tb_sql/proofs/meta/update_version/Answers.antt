use Rattle.sqlite.specs.Held.{state}
use Rattle.tb_sql_tables.proofs.Changing.{where_ok}
use Rattle.tb_sql.proofs.MetaRows.{update_version}
use Rattle.tb_sql.proofs.meta.update_version.Goals as goal

pub returns-clause-made : goal.returns-clause-made
returns-clause-made g c clean inside =
    let old = state g.S.Store c.args.tx.now.conn.now in
    let new = state g.S.Store c.run.new.tx.conn.now in
    where_ok c.run.result (update_version old new) (c.run.ensures.ran clean inside)
