use Rattle.sqlite.specs.Held.{state}
use Rattle.tb_sql_tables.proofs.Changing.{where_ok}
use Rattle.tb_sql_tables.proofs.Creates.{add_horizon, create_horizon}
use Rattle.tb_sql_tables.proofs.create.create_horizon.Goals as goal

pub returns-clause-made : goal.returns-clause-made
returns-clause-made g c clean inside =
    let old = state g.S.Store c.args.tx.now.conn.now in
    let new = state g.S.Store c.run.new.tx.conn.now in
    where_ok c.run.result (create_horizon old new) (c.run.ensures.ran clean inside)

pub returns-clause-added : goal.returns-clause-added
returns-clause-added g c clean inside =
    let old = state g.S.Store c.args.tx.now.conn.now in
    let new = state g.S.Store c.run.new.tx.conn.now in
    where_ok c.run.result (add_horizon old new) (c.run.ensures.ran clean inside)
