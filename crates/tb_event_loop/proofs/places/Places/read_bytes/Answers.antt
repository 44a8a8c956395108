use Rattle.std.proofs.Common.{sym}
use Rattle.tb_event_loop.proofs.Acting.{at_nothing}
use Rattle.tb_event_loop.proofs.Doing.{begins_as}
use Rattle.tb_event_loop.proofs.Listening.{hears_at}
use Rattle.tb_event_loop.proofs.Sparing.{spares_lent}
use Rattle.tb_event_loop.proofs.places.Places.read_bytes.Goals as goal

pub returns-in-None-clause-after : goal.returns-in-None-clause-after
returns-in-None-clause-after g c = at_nothing g.N.Sockets.follows g.V.Service.follows g.V.Service.owed_at c.args.place g.N.Sockets.unchanged c.args.sockets.now c.args.service.now

pub returns-in-Some-clause-spares : goal.returns-in-Some-clause-spares
returns-in-Some-clause-spares g c =
    let changed = rw c.in-Some.is at c.connection.follows.holds c.read_some.new.connection in spares_lent c.args.place c.args.self.now _ c.read_some.new.connection changed

pub returns-in-Some-clause-reads : goal.returns-in-Some-clause-reads
returns-in-Some-clause-reads g c needs =
    let changed = rw c.in-Some.is at c.connection.follows.holds c.read_some.new.connection in
    let was = rw c.in-Some.is at c.connection.ensures.value in
    begins_as _ _ _ _ _ _ (λ deed is. (is.0, hears_at c.args.place c.args.self.now _ _ c.read_some.new.connection deed (sym was) changed is.1)) c.read_some.ensures.reads

pub returns-in-Some-clause-same : goal.returns-in-Some-clause-same
returns-in-Some-clause-same g c = let changed = rw c.in-Some.is at c.connection.follows.holds c.read_some.new.connection in changed.1
