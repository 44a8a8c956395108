use Rattle.std.proofs.Common.{rules, refl, is_err, false, [], arith}
use Rattle.tb_event_loop.specs.Deeds.{called}
use Rattle.tb_event_loop.specs.Heard.{Reads}
use Rattle.tb_event_loop.specs.Sockets.{unread}
use Rattle.tb_event_loop.proofs.Acting.{begins_read, did_fail, did_read, reads_nothing, reads_some}
use Rattle.tb_event_loop.proofs.Listening.{hears_bytes}
use Rattle.tb_event_loop.proofs.exchange.read_some.Goals as goal

pub returns-in-Ok-eq0-clause-after : goal.returns-in-Ok-eq0-clause-after
returns-in-Ok-eq0-clause-after g c =
    did_read g.N.Sockets.follows g.V.Service.follows g.V.Service.owed_at false c.args.place _ (c.args.sockets.now, c.args.service.now) (c.read.new.self, c.args.service.now)
    (reads_nothing g.N.Sockets.follows g.V.Service.follows g.V.Service.owed_at c.args.place c.in-Ok-eq0.field-0 c.read.new.piece c.args.sockets.now c.read.new.self c.args.service.now
    (search rules) c.in-Ok-eq0.ensures.came)

pub returns-in-Ok-eq0-clause-reads : goal.returns-in-Ok-eq0-clause-reads
returns-in-Ok-eq0-clause-reads g c =
    begins_read g.N.Sockets.follows g.V.Service.follows g.V.Service.owed_at (Reads c.args.place c.args.connection.now c.end_input.new.self) false c.args.place [] (c.args.sockets.now, c.args.service.now) (c.read.new.self, c.args.service.now)
    (refl, c.end_input.ensures)
    (reads_nothing g.N.Sockets.follows g.V.Service.follows g.V.Service.owed_at c.args.place c.in-Ok-eq0.field-0 c.read.new.piece c.args.sockets.now c.read.new.self c.args.service.now
    (search rules) c.in-Ok-eq0.ensures.came)

pub returns-in-Ok-clause-after : goal.returns-in-Ok-clause-after
returns-in-Ok-clause-after g c =
    did_read g.N.Sockets.follows g.V.Service.follows g.V.Service.owed_at (is_err c.happen.result) c.args.place _ (c.args.sockets.now, c.args.service.now) (c.read.new.self, c.happen.new.self)
    (reads_some g.N.Sockets.follows g.V.Service.follows g.V.Service.owed_at (is_err c.happen.result) c.args.place c.in-Ok.count c.read.new.piece c.args.sockets.now c.read.new.self
    c.args.service.now c.happen.new.self (omega arith) c.in-Ok.ensures.bound.0 c.in-Ok.ensures.came c.happen.ensures.after)

pub returns-in-Ok-clause-reads : goal.returns-in-Ok-clause-reads
returns-in-Ok-clause-reads g c =
    begins_read g.N.Sockets.follows g.V.Service.follows g.V.Service.owed_at (Reads c.args.place c.args.connection.now c.bytes_came.new.self) (is_err c.happen.result) c.args.place _ (c.args.sockets.now, c.args.service.now) (c.read.new.self, c.happen.new.self)
    (refl, hears_bytes c.args.place c.in-Ok.count c.read.new.piece c.args.connection.now c.bytes_came.new.self (omega arith) c.in-Ok.ensures.bound.0 c.bytes_came.ensures)
    (reads_some g.N.Sockets.follows g.V.Service.follows g.V.Service.owed_at (is_err c.happen.result) c.args.place c.in-Ok.count c.read.new.piece c.args.sockets.now c.read.new.self
    c.args.service.now c.happen.new.self (omega arith) c.in-Ok.ensures.bound.0 c.in-Ok.ensures.came c.happen.ensures.after)

pub returns-in-Err-clause-after : goal.returns-in-Err-clause-after
returns-in-Err-clause-after g c =
    did_fail g.N.Sockets.follows g.V.Service.follows g.V.Service.owed_at c.args.place (unread c.args.place _) refl c.args.sockets.now c.read.new.self c.args.service.now c.in-Err.ensures.failed

pub returns-in-Err-clause-reads : goal.returns-in-Err-clause-reads
returns-in-Err-clause-reads g c =
    record { first = called (unread c.args.place _); is = (refl, c.read_failed.ensures); more = []; done = ((c.in-Err.ensures.failed, (tt, c.args.service.now, refl, refl)), tt); ends = refl }
