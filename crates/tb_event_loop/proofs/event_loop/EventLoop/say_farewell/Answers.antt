use Rattle.tb_event_loop.proofs.Parting.{says_quietly, says_then}
use Rattle.tb_event_loop.proofs.event_loop.EventLoop.say_farewell.Goals as goal

pub returns-clause-says : goal.returns-clause-says
returns-clause-says g c =
    says_then g.N.Sockets.follows (g.V.Service.owed_at c.args.service.now) g.N.Sockets.joined c.args.sockets.now c.send_all.new.sockets c.let_read.new.sockets c.send_all.ensures.says
    (says_quietly g.N.Sockets.follows (g.V.Service.owed_at c.args.service.now) c.send_all.new.sockets c.let_read.new.sockets c.let_read.ensures)

pub returns-clause-sends : goal.returns-clause-sends
returns-clause-sends g c = (c.send_all.new.sockets, c.send_all.ensures.sends, c.let_read.ensures)
