use Rattle.tb_event_loop.proofs.Acting.{quiet_none, quiet_then}
use Rattle.tb_event_loop.proofs.event_loop.EventLoop.drop_all.Goals as goal

pub places-init : goal.places-init
places-init g c = quiet_none g.N.Sockets.follows g.N.Sockets.unchanged c.args.sockets.now

pub places-preserved : goal.places-preserved
places-preserved g c =
    quiet_then g.N.Sockets.follows g.N.Sockets.joined c.args.sockets.now c.places.sockets c.drop_at.new.sockets c.places.invariant c.drop_at.ensures
