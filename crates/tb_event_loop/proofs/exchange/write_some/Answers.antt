use Rattle.std.proofs.Common.{rules, refl, is_err, false, [], arith}
use Rattle.tb_event_loop.specs.Deeds.{called}
use Rattle.tb_event_loop.specs.Connection.{leaving}
use Rattle.tb_event_loop.specs.Heard.{Writes}
use Rattle.tb_event_loop.specs.Sockets.{unwritten}
use Rattle.tb_event_loop.proofs.Acting.{begins_write, did_fail, did_write, writes_nothing, writes_some}
use Rattle.tb_event_loop.proofs.Listening.{hears_taken}
use Rattle.tb_event_loop.proofs.exchange.write_some.Goals as goal

pub returns-in-Ok-eq0-clause-after : goal.returns-in-Ok-eq0-clause-after
returns-in-Ok-eq0-clause-after g c =
    did_write g.N.Sockets.follows g.V.Service.follows g.V.Service.owed_at false c.args.place _ (c.args.sockets.now, c.args.service.now) (c.write.new.self, c.args.service.now)
    (writes_nothing g.N.Sockets.follows g.V.Service.follows g.V.Service.owed_at c.args.place c.in-Ok-eq0.field-0 c.unsent.result.now c.args.sockets.now c.write.new.self c.args.service.now
    (search rules) c.in-Ok-eq0.ensures.went)

pub returns-in-Ok-eq0-clause-writes : goal.returns-in-Ok-eq0-clause-writes
returns-in-Ok-eq0-clause-writes g c =
    begins_write g.N.Sockets.follows g.V.Service.follows g.V.Service.owed_at (Writes c.args.place c.args.connection.now (leaving c.args.connection.now)) false c.args.place [] (c.args.sockets.now, c.args.service.now) (c.write.new.self, c.args.service.now)
    (refl, refl)
    (writes_nothing g.N.Sockets.follows g.V.Service.follows g.V.Service.owed_at c.args.place c.in-Ok-eq0.field-0 c.unsent.result.now c.args.sockets.now c.write.new.self c.args.service.now
    (search rules) c.in-Ok-eq0.ensures.went)

pub returns-in-Ok-clause-after : goal.returns-in-Ok-clause-after
returns-in-Ok-clause-after g c =
    did_write g.N.Sockets.follows g.V.Service.follows g.V.Service.owed_at (is_err c.happen.result) c.args.place _ (c.args.sockets.now, c.args.service.now) (c.write.new.self, c.happen.new.self)
    (writes_some g.N.Sockets.follows g.V.Service.follows g.V.Service.owed_at (is_err c.happen.result) c.args.place c.in-Ok.count c.unsent.result.now c.args.sockets.now c.write.new.self
    c.args.service.now c.happen.new.self (omega arith) c.in-Ok.ensures.bound c.unsent.ensures c.in-Ok.ensures.went c.happen.ensures.after)

pub returns-in-Ok-clause-writes : goal.returns-in-Ok-clause-writes
returns-in-Ok-clause-writes g c =
    begins_write g.N.Sockets.follows g.V.Service.follows g.V.Service.owed_at (Writes c.args.place c.args.connection.now c.args.connection.now) (is_err c.happen.result) c.args.place _ (c.args.sockets.now, c.args.service.now) (c.write.new.self, c.happen.new.self)
    (refl, hears_taken c.args.place c.in-Ok.count c.unsent.result.now c.args.connection.now (omega arith) c.in-Ok.ensures.bound)
    (writes_some g.N.Sockets.follows g.V.Service.follows g.V.Service.owed_at (is_err c.happen.result) c.args.place c.in-Ok.count c.unsent.result.now c.args.sockets.now c.write.new.self
    c.args.service.now c.happen.new.self (omega arith) c.in-Ok.ensures.bound c.unsent.ensures c.in-Ok.ensures.went c.happen.ensures.after)

pub returns-in-Err-clause-after : goal.returns-in-Err-clause-after
returns-in-Err-clause-after g c =
    did_fail g.N.Sockets.follows g.V.Service.follows g.V.Service.owed_at c.args.place (unwritten c.args.place _) refl c.args.sockets.now c.write.new.self c.args.service.now c.in-Err.ensures.failed

pub returns-in-Err-clause-writes : goal.returns-in-Err-clause-writes
returns-in-Err-clause-writes g c =
    record { first = called (unwritten c.args.place _); is = (refl, c.write_failed.ensures); more = []; done = ((c.in-Err.ensures.failed, (tt, c.args.service.now, refl, refl)), tt); ends = refl }
