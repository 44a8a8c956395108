use Rattle.tb_event_loop.proofs.Acting.{quiet_none}
use Rattle.tb_event_loop.proofs.Sparing.{spares_lent}
use Rattle.tb_event_loop.proofs.places.Places.drop_bytes.Goals as goal

pub returns-in-Some-clause-same : goal.returns-in-Some-clause-same
returns-in-Some-clause-same g c = let changed = rw c.in-Some.is at c.connection.follows.holds c.drop_some.new.connection in changed.1

pub returns-in_default-clause-quiet : goal.returns-in_default-clause-quiet
returns-in_default-clause-quiet g c = quiet_none g.N.Sockets.follows g.N.Sockets.unchanged c.args.sockets.now

pub returns-in-Some-clause-spares : goal.returns-in-Some-clause-spares
returns-in-Some-clause-spares g c =
    let changed = rw c.in-Some.is at c.connection.follows.holds c.drop_some.new.connection in spares_lent c.args.place c.args.self.now _ c.drop_some.new.connection changed
