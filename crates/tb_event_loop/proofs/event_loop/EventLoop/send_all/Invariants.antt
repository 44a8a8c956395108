use Rattle.tb_event_loop.specs.Farewell.{SaysFarewell, SendsBelow}
use Rattle.tb_event_loop.proofs.event_loop.EventLoop.send_all.Given as goal

-- farewells alone were said, to each place so far
abbrev pub invariant-places : goal.invariant-places
invariant-places g l = record {
  says : SaysFarewell g.N.Sockets.follows (g.V.Service.owed_at l.service) l.fn.sockets l.sockets;
  sends : SendsBelow g.N.Sockets.follows (g.V.Service.owed_at l.service) l.place l.self.places l.fn.sockets l.sockets;
}
