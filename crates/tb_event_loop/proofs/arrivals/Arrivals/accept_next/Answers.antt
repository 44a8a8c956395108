use Rattle.tb_event_loop.proofs.Arriving.{ready_none}
use Rattle.tb_event_loop.proofs.arrivals.Arrivals.accept_next.Goals as goal

pub returns-then-self-clause-heard : goal.returns-then-self-clause-heard
returns-then-self-clause-heard g c = ready_none g.N.Sockets.follows g.N.Sockets.unchanged c.args.self.now.is_ready c.args.sockets.now
