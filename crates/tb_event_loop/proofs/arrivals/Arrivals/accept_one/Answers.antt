use Rattle.std.proofs.Common.{refl, []}
use Rattle.tb_event_loop.specs.Sockets.{accepted, unaccepted}
use Rattle.tb_event_loop.proofs.Arriving.{ready_accepted, ready_failed}
use Rattle.tb_event_loop.proofs.arrivals.Arrivals.accept_one.Goals as goal

pub returns-in-Ok-clause-heard : goal.returns-in-Ok-clause-heard
returns-in-Ok-clause-heard g c = ready_accepted g.N.Sockets.follows c.args.self.now.is_ready c.args.sockets.now c.accept.new.self c.in-Ok.ensures.came

pub returns-in-Ok-clause-tried : goal.returns-in-Ok-clause-tried
returns-in-Ok-clause-tried g c may = record { first = accepted; is = refl; more = []; made = c.in-Ok.ensures.came }

pub returns-in-Err-clause-heard : goal.returns-in-Err-clause-heard
returns-in-Err-clause-heard g c =
    ready_failed g.N.Sockets.follows c.args.self.now.is_ready c.accept_failed.new.self.is_ready _ c.args.sockets.now c.accept.new.self c.in-Err.ensures.failed c.accept_failed.ensures.ready

pub returns-in-Err-clause-tried : goal.returns-in-Err-clause-tried
returns-in-Err-clause-tried g c may = record { first = unaccepted _; is = refl; more = []; made = c.in-Err.ensures.failed }
