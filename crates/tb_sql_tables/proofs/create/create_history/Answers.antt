use Rattle.sqlite.specs.Held.{state}
use Rattle.tb_sql_tables.proofs.Changing.{where_ok}
use Rattle.tb_sql_tables.proofs.Creates.{add_both, add_history, create_history}
use Rattle.tb_sql_tables.proofs.create.create_history.Goals as goal

pub returns-clause-made : goal.returns-clause-made
returns-clause-made g c clean inside =
    let old = state g.S.Store c.args.tx.now.conn.now in
    let new = state g.S.Store c.run.new.tx.conn.now in
    where_ok c.run.result (create_history old new) (c.run.ensures.ran clean inside)

pub returns-clause-both : goal.returns-clause-both
returns-clause-both g c clean inside =
    let old = state g.S.Store c.args.tx.now.conn.now in
    let new = state g.S.Store c.run.new.tx.conn.now in
    where_ok c.run.result (add_both old new) (c.run.ensures.ran clean inside)

pub returns-clause-added : goal.returns-clause-added
returns-clause-added g c clean inside =
    let old = state g.S.Store c.args.tx.now.conn.now in
    let new = state g.S.Store c.run.new.tx.conn.now in
    where_ok c.run.result (add_history old new) (c.run.ensures.ran clean inside)
