use Rattle.tb_event_loop.specs.Sockets.{Quietly}
use Rattle.tb_event_loop.proofs.event_loop.EventLoop.let_read.Given as goal

-- nothing was sent, and nothing was handed on
abbrev pub invariant-looks : goal.invariant-looks
invariant-looks g l = Quietly g.N.Sockets.follows l.fn.sockets l.sockets
