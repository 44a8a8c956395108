use Rattle.sqlite.specs.Held.{state}
use Rattle.tb_sql_tables.proofs.Inside.{query_keeps_commit}
use Rattle.tb_sql_tables.proofs.run.find_rows.Goals as goal

pub returns-clause-kept : goal.returns-clause-kept
returns-clause-kept g c clean inside =
    let old = state g.S.Store c.args.tx.now.conn.now in
    let new = state g.S.Store c.query_all.new.self.conn.now in
    query_keeps_commit _ _ old new c.query_all.result inside (c.query_all.ensures.ok clean) (c.query_all.ensures.err clean)
