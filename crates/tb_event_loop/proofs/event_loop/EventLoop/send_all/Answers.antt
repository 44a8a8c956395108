use Rattle.std.proofs.Common.{refl, add-one}
use Rattle.tb_event_loop.proofs.Parting.{says_none, says_then}
use Rattle.tb_event_loop.proofs.event_loop.EventLoop.send_all.Goals as goal

pub places-init : goal.places-init
places-init g c = record {
  says = says_none g.N.Sockets.follows (g.V.Service.owed_at c.args.service.now) g.N.Sockets.unchanged c.args.sockets.now;
  sends = refl;
}

pub places-preserved : goal.places-preserved
places-preserved g c = record {
  says = says_then g.N.Sockets.follows (g.V.Service.owed_at c.args.service.now) g.N.Sockets.joined c.args.sockets.now c.places.sockets c.send_to.new.sockets c.places.invariant.says c.send_to.ensures.says;
  sends = rw add-one (c.places.sockets, c.places.invariant.sends, c.send_to.ensures.sends);
}
