use Rattle.sqlite.specs.Held.{state}
use Rattle.tb_keeper.proofs.Holding.{held_of}
use Rattle.tb_keeper.proofs.Looked.{cached_found}
use Rattle.tb_keeper.proofs.sql_keep.SqlKeep.cached.Goals as goal

pub returns-clause-of : goal.returns-clause-of
returns-clause-of g c clean s held =
    let k = c.args.self.now in
    let hand = (held_of k.failed k.people k.boards k.cache.entries (state g.S.Store k.conn) s c.if-self.false clean held).1 in
    cached_found s.world k.cache.entries c.args.board c.cached.result (λ b. b.now) c.cached.ensures hand.cached_are
