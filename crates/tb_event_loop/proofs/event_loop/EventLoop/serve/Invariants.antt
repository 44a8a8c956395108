use Rattle.std.proofs.Common.{false}
use Rattle.tb_event_loop.specs.Deeds.{Acts}
use Rattle.tb_event_loop.specs.History.{Goes}
use Rattle.tb_event_loop.specs.Laps.{AreLaps}
use Rattle.tb_event_loop.proofs.Serving.{Asked}
use Rattle.tb_event_loop.proofs.event_loop.EventLoop.serve.Given as goal

-- what happened so far is no end, and there were rounds, with a call in each
abbrev pub invariant-rounds : goal.invariant-rounds
invariant-rounds g l = record {
  goes : Goes (Acts g.N.Sockets.follows g.V.Service.follows g.V.Service.owed_at) false l.fn.self.still_to_end l.self.still_to_end (l.fn.sockets, l.fn.service) (l.sockets, l.service);
  asked : Asked g.N.Sockets.follows l.counter l.fn.sockets l.sockets;
  laps : AreLaps g.N.Sockets.follows g.N.Sockets.last_told g.P.Watch.looks g.V.Service.follows g.V.Service.gives_file g.V.Service.held_at g.V.Service.owed_at g.V.Service.wants l.counter l.fn.self l.self (l.fn.sockets, l.fn.service, l.fn.watch) (l.sockets, l.service, l.watch);
}
