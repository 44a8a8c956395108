use Rattle.tb_event_loop.proofs.Acting.{quiet_none}
use Rattle.tb_event_loop.proofs.event_loop.EventLoop.drop_at.Goals as goal

pub returns-in-None : goal.returns-in-None
returns-in-None g c = quiet_none g.N.Sockets.follows g.N.Sockets.unchanged c.args.sockets.now
