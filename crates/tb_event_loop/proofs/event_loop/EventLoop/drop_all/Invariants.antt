use Rattle.tb_event_loop.specs.Sockets.{Quietly}
use Rattle.tb_event_loop.proofs.event_loop.EventLoop.drop_all.Given as goal

-- nothing was sent, and nothing was handed on
abbrev pub invariant-places : goal.invariant-places
invariant-places g l = Quietly g.N.Sockets.follows l.fn.sockets l.sockets
