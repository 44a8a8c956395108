use Rattle.std.proofs.Common.{ap, sym, ◌∙◌}
use Rattle.std.proofs.lemmas.Bool.{false≢true}
use Rattle.tb_event_loop.specs.Places.{can_write_at}
use Rattle.tb_event_loop.proofs.Acting.{at_nothing}
use Rattle.tb_event_loop.proofs.Doing.{begins_as}
use Rattle.tb_event_loop.proofs.Listening.{hears_at}
use Rattle.tb_event_loop.proofs.Sparing.{spares_lent}
use Rattle.tb_event_loop.proofs.places.Places.write_bytes.Goals as goal

pub returns-then-is_empty-clause-after : goal.returns-then-is_empty-clause-after
returns-then-is_empty-clause-after g c = at_nothing g.N.Sockets.follows g.V.Service.follows g.V.Service.owed_at c.args.place g.N.Sockets.unchanged c.args.sockets.now c.args.service.now

pub returns-then-not-can_write-clause-after : goal.returns-then-not-can_write-clause-after
returns-then-not-can_write-clause-after g c = at_nothing g.N.Sockets.follows g.V.Service.follows g.V.Service.owed_at c.args.place g.N.Sockets.unchanged c.args.sockets.now c.args.service.now

pub returns-in-None-clause-after : goal.returns-in-None-clause-after
returns-in-None-clause-after g c = at_nothing g.N.Sockets.follows g.V.Service.follows g.V.Service.owed_at c.args.place g.N.Sockets.unchanged c.args.sockets.now c.args.service.now

pub returns-in-None-clause-writes : goal.returns-in-None-clause-writes
returns-in-None-clause-writes g c owes can =
    let none = rw c.in-None.is at c.connection.ensures.value in absurd (false≢true (ap can_write_at none ∙ can))

pub returns-in-Some-clause-spares : goal.returns-in-Some-clause-spares
returns-in-Some-clause-spares g c =
    let changed = rw c.in-Some.is at c.connection.follows.holds c.write_some.new.connection in spares_lent c.args.place c.args.self.now _ c.write_some.new.connection changed

pub returns-in-Some-clause-writes : goal.returns-in-Some-clause-writes
returns-in-Some-clause-writes g c owes can =
    let changed = rw c.in-Some.is at c.connection.follows.holds c.write_some.new.connection in
    let was = rw c.in-Some.is at c.connection.ensures.value in
    begins_as _ _ _ _ _ _ (λ deed is. (is.0, hears_at c.args.place c.args.self.now _ _ c.write_some.new.connection deed (sym was) changed is.1)) c.write_some.ensures.writes

pub returns-in-Some-clause-same : goal.returns-in-Some-clause-same
returns-in-Some-clause-same g c = let changed = rw c.in-Some.is at c.connection.follows.holds c.write_some.new.connection in changed.1
