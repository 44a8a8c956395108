use Rattle.std.proofs.Common.{ap, refl}
use Rattle.tb_event_loop.specs.declared.places.Places.{Places}
use Rattle.tb_event_loop.proofs.Acting.{at_nothing}
use Rattle.tb_event_loop.proofs.Doing.{begins_as}
use Rattle.tb_event_loop.proofs.Listening.{reads_still}
use Rattle.tb_event_loop.proofs.Noting.{kept_connections, kept_stages, kept_then}
use Rattle.tb_event_loop.proofs.Sparing.{spares_entered, spares_then}
use Rattle.tb_event_loop.proofs.places.Places.read.Goals as goal

pub returns-then-not-needs_bytes-clause-after : goal.returns-then-not-needs_bytes-clause-after
returns-then-not-needs_bytes-clause-after g c = at_nothing g.N.Sockets.follows g.V.Service.follows g.V.Service.owed_at c.args.place g.N.Sockets.unchanged c.args.sockets.now c.args.service.now

pub returns-clause-spares : goal.returns-clause-spares
returns-clause-spares g c =
    spares_then c.args.place c.args.self.now c.read_bytes.new.self c.enter.new.self c.read_bytes.ensures.spares (spares_entered c.args.place c.args.now c.read_bytes.new.self c.enter.new.self _ _ _ c.enter.ensures)

pub returns-then-not-needs_bytes-clause-keeps : goal.returns-then-not-needs_bytes-clause-keeps
returns-then-not-needs_bytes-clause-keeps g c = refl

pub returns-in_err-read_bytes-clause-keeps : goal.returns-in_err-read_bytes-clause-keeps
returns-in_err-read_bytes-clause-keeps g c = kept_connections c.args.self.now c.read_bytes.new.self c.read_bytes.ensures.same

pub returns-clause-keeps : goal.returns-clause-keeps
returns-clause-keeps g c =
    kept_then c.args.self.now c.read_bytes.new.self c.enter.new.self (kept_connections c.args.self.now c.read_bytes.new.self c.read_bytes.ensures.same)
    (kept_stages c.read_bytes.new.self c.enter.new.self c.enter.ensures.2.1)

pub returns-clause-reads : goal.returns-clause-reads
returns-clause-reads g c needs =
    begins_as _ _ _ _ _ _ (λ deed is. reads_still c.args.place c.args.self.now c.read_bytes.new.self c.enter.new.self deed (ap (λ (p : Places). p.connections.items) c.enter.ensures.2.1) is)
    (c.in_ok-read_bytes.ensures.reads needs)
