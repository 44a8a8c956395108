use Rattle.tb_event_loop.proofs.Acting.{quiet_none}
use Rattle.tb_event_loop.proofs.places.Places.end_one.Goals as goal

pub returns-in-Closing-clause-quiet : goal.returns-in-Closing-clause-quiet
returns-in-Closing-clause-quiet g c = quiet_none g.N.Sockets.follows g.N.Sockets.unchanged c.args.sockets.now
