use Rattle.tb_event_loop.proofs.Acting.{quiet_none}
use Rattle.tb_event_loop.proofs.places.Places.begin_turn.Goals as goal

pub returns-clause-quiet : goal.returns-clause-quiet
returns-clause-quiet g c = quiet_none g.N.Sockets.follows g.N.Sockets.unchanged c.args.sockets.now
