use Rattle.std.proofs.Common.{rules, refl}
use Rattle.tb_event_loop.specs.Sockets.{unwritten}
use Rattle.tb_event_loop.proofs.Acting.{quiet_one}
use Rattle.tb_event_loop.proofs.Parting.{says_bytes, says_none, says_quietly, writes_failed, writes_none, writes_some}
use Rattle.tb_event_loop.proofs.farewell.send_bytes.Goals as goal

pub returns-then-is_empty-clause-says : goal.returns-then-is_empty-clause-says
returns-then-is_empty-clause-says g c = says_none g.N.Sockets.follows (g.V.Service.owed_at c.args.service.now) g.N.Sockets.unchanged c.args.sockets.now

pub returns-in-Ok-clause-says : goal.returns-in-Ok-clause-says
returns-in-Ok-clause-says g c =
    says_bytes g.N.Sockets.follows (g.V.Service.owed_at c.args.service.now) c.args.place _ c.unsent-bytes.result.now c.args.sockets.now c.write.new.self c.unsent-bytes.ensures c.in-Ok.ensures.went

pub returns-in-Err-clause-says : goal.returns-in-Err-clause-says
returns-in-Err-clause-says g c =
    says_quietly g.N.Sockets.follows (g.V.Service.owed_at c.args.service.now) c.args.sockets.now c.write.new.self
    (quiet_one g.N.Sockets.follows (unwritten c.args.place _) refl c.args.sockets.now c.write.new.self c.in-Err.ensures.failed)

pub returns-then-is_empty-clause-writes : goal.returns-then-is_empty-clause-writes
returns-then-is_empty-clause-writes g c = writes_none g.N.Sockets.follows c.args.place c.args.sockets.now c.unsent-bytes.result.now (g.V.Service.owed_at c.args.service.now c.args.place) c.unsent-bytes.ensures (search rules)

pub returns-in-Ok-clause-writes : goal.returns-in-Ok-clause-writes
returns-in-Ok-clause-writes g c = writes_some g.N.Sockets.follows c.args.place _ c.args.sockets.now c.write.new.self c.unsent-bytes.result.now (g.V.Service.owed_at c.args.service.now c.args.place) c.unsent-bytes.ensures (search rules) c.in-Ok.ensures.went

pub returns-in-Err-clause-writes : goal.returns-in-Err-clause-writes
returns-in-Err-clause-writes g c = writes_failed g.N.Sockets.follows c.args.place _ c.args.sockets.now c.write.new.self c.unsent-bytes.result.now (g.V.Service.owed_at c.args.service.now c.args.place) c.unsent-bytes.ensures (search rules) c.in-Err.ensures.failed
