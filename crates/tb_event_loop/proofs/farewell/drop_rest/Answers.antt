use Rattle.tb_event_loop.proofs.Acting.{quiet_none}
use Rattle.tb_event_loop.proofs.farewell.drop_rest.Goals as goal

pub returns-then-not-connection : goal.returns-then-not-connection
returns-then-not-connection g c = quiet_none g.N.Sockets.follows g.N.Sockets.unchanged c.args.sockets.now

pub returns-then-connection : goal.returns-then-connection
returns-then-connection g c = quiet_none g.N.Sockets.follows g.N.Sockets.unchanged c.args.sockets.now
