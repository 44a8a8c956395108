use Rattle.tb_keeper.proofs.Counted.{hand_follows}
use Rattle.tb_keeper.proofs.sql_keep.SqlKeep.follow.Goals as goal

pub returns-clause-hand : goal.returns-clause-hand
returns-clause-hand g c =
    hand_follows c.args.self.now.people c.follow.new.self c.args.self.now.boards c.boards_with-self.result c.args.self.now.cache.entries c.follow-whole.new.self.entries c.args.changes.now c.follow.ensures.count c.follow.ensures.known
    c.boards_with-self.ensures c.follow-whole.ensures.of
