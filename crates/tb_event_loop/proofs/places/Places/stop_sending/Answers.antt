use Rattle.std.proofs.Common.{refl}
use Rattle.tb_event_loop.specs.Sockets.{shut}
use Rattle.tb_event_loop.proofs.Acting.{quiet_none, quiet_one}
use Rattle.tb_event_loop.proofs.places.Places.stop_sending.Goals as goal

pub returns-in-Some-Some : goal.returns-in-Some-Some
returns-in-Some-Some g c = quiet_one g.N.Sockets.follows (shut c.args.place) refl c.args.sockets.now c.stop_sending.new.self c.stop_sending.ensures

pub returns : goal.returns
returns g c = quiet_none g.N.Sockets.follows g.N.Sockets.unchanged c.args.sockets.now

pub returns-2 : goal.returns-2
returns-2 g c = quiet_none g.N.Sockets.follows g.N.Sockets.unchanged c.args.sockets.now
