use Rattle.tb_event_loop.specs.Arrivals.{StaysReady}
use Rattle.tb_event_loop.specs.Hearing.{Remain}
use Rattle.tb_event_loop.proofs.arrivals.Arrivals.seat_those.Given as goal

-- it is known whether one is ready, and who has a place keeps it
abbrev pub invariant-seats : goal.invariant-seats
invariant-seats g l = record {
  ready : StaysReady g.N.Sockets.follows l.fn.self.is_ready l.self.is_ready l.fn.sockets l.sockets;
  remain : Remain l.fn.places l.places;
}
