use Rattle.sqlite.specs.Held.{state}
use Rattle.tb_keeper.proofs.Holding.{failed_of}
use Rattle.tb_keeper.proofs.sql_keep.SqlKeep.close.Goals as goal

pub returns-clause-failed : goal.returns-clause-failed
returns-clause-failed g c s held gone clean =
    let k = c.args.self in
    failed_of k.failed k.people k.boards k.cache.entries (state g.S.Store k.conn) s gone clean held
