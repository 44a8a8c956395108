use Rattle.tb_event_loop.proofs.Parting.{says_none}
use Rattle.tb_event_loop.proofs.event_loop.EventLoop.send_to.Goals as goal

pub returns-clause-says : goal.returns-clause-says
returns-clause-says g c = says_none g.N.Sockets.follows (g.V.Service.owed_at c.args.service.now) g.N.Sockets.unchanged c.args.sockets.now

pub returns-2-clause-says : goal.returns-2-clause-says
returns-2-clause-says g c = says_none g.N.Sockets.follows (g.V.Service.owed_at c.args.service.now) g.N.Sockets.unchanged c.args.sockets.now
