use Rattle.std.proofs.Common.{ap}
use Rattle.tb_event_loop.specs.declared.places.Places.{Places}
use Rattle.tb_event_loop.proofs.Doing.{begins_as}
use Rattle.tb_event_loop.proofs.Listening.{writes_still}
use Rattle.tb_event_loop.proofs.Noting.{kept_connections, kept_stages, kept_then}
use Rattle.tb_event_loop.proofs.Sparing.{spares_stage, spares_then}
use Rattle.tb_event_loop.proofs.places.Places.write.Goals as goal

pub returns-then-unsent-before-clause-spares : goal.returns-then-unsent-before-clause-spares
returns-then-unsent-before-clause-spares g c =
    spares_then c.args.place c.args.self.now c.write_bytes.new.self c.set_stage.new.self c.write_bytes.ensures.spares (spares_stage c.args.place c.write_bytes.new.self c.set_stage.new.self _ c.set_stage.ensures)

pub returns-in_err-write_bytes-clause-keeps : goal.returns-in_err-write_bytes-clause-keeps
returns-in_err-write_bytes-clause-keeps g c = kept_connections c.args.self.now c.write_bytes.new.self c.write_bytes.ensures.same

pub returns-then-unsent-before-clause-keeps : goal.returns-then-unsent-before-clause-keeps
returns-then-unsent-before-clause-keeps g c =
    kept_then c.args.self.now c.write_bytes.new.self c.set_stage.new.self (kept_connections c.args.self.now c.write_bytes.new.self c.write_bytes.ensures.same)
    (kept_stages c.write_bytes.new.self c.set_stage.new.self c.set_stage.ensures.1)

pub returns-then-unsent-before-clause-writes : goal.returns-then-unsent-before-clause-writes
returns-then-unsent-before-clause-writes g c owes can =
    begins_as _ _ _ _ _ _ (λ deed is. writes_still c.args.place c.args.self.now c.write_bytes.new.self c.set_stage.new.self deed (ap (λ (p : Places). p.connections.items) c.set_stage.ensures.1) is)
    (c.in_ok-write_bytes.ensures.writes owes can)

pub returns-else-unsent-before-clause-keeps : goal.returns-else-unsent-before-clause-keeps
returns-else-unsent-before-clause-keeps g c = kept_connections c.args.self.now c.write_bytes.new.self c.write_bytes.ensures.same
