use Rattle.tb_event_loop.proofs.Arriving.{ready_then, tries_then}
use Rattle.tb_event_loop.proofs.arrivals.Arrivals.seat_all.Goals as goal

pub returns-clause-heard : goal.returns-clause-heard
returns-clause-heard g c =
    ready_then g.N.Sockets.follows g.N.Sockets.joined c.args.self.now.is_ready c.accept_next.new.self.is_ready c.seat_those.new.self.is_ready
    c.args.sockets.now c.accept_next.new.sockets c.seat_those.new.sockets c.accept_next.ensures.heard c.seat_those.ensures.heard

pub returns-clause-tried : goal.returns-clause-tried
returns-clause-tried g c none may =
    tries_then g.N.Sockets.follows g.N.Sockets.joined c.accept_next.new.self.is_ready c.seat_those.new.self.is_ready
    c.args.sockets.now c.accept_next.new.sockets c.seat_those.new.sockets (c.accept_next.ensures.tried none may) c.seat_those.ensures.heard
