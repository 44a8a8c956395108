use Rattle.std.proofs.Common.{◌≡◌, false}
use Rattle.std.specs.Prelude.{min}
use Rattle.tb_event_loop.specs.Deeds.{Acts}
use Rattle.tb_event_loop.specs.History.{Goes}
use Rattle.tb_event_loop.specs.Rounds.{VisitsEach, begun}
use Rattle.tb_event_loop.proofs.event_loop.EventLoop.round.Given as goal

-- the places of the steps so far were visited, and what happened is no end
abbrev pub invariant-places : goal.invariant-places
invariant-places g l = record {
  goes : Goes (Acts g.N.Sockets.follows g.V.Service.follows g.V.Service.owed_at) false l.fn.self.still_to_end l.self.still_to_end (l.fn.sockets, l.fn.service) (l.sockets, l.service);
  each : VisitsEach g.N.Sockets.follows g.V.Service.follows g.V.Service.gives_file g.V.Service.held_at g.V.Service.owed_at g.V.Service.wants (min l.fn.self.places.first l.fn.self.places.end) l.fn.self.places.end l.step (begun l.fn.self) l.self (l.fn.sockets, l.fn.service) (l.sockets, l.service);
  first : l.self.places.first ≡ min l.fn.self.places.first l.fn.self.places.end;
}
