use Rattle.std.proofs.Common.{refl, rules}
use Rattle.tb_event_loop.proofs.Arriving.{ready_none, ready_then}
use Rattle.tb_event_loop.proofs.Hearing.{remain_one, remain_same, remain_then, vacant_at}
use Rattle.tb_event_loop.proofs.arrivals.Arrivals.seat_those.Goals as goal

pub seats-init : goal.seats-init
seats-init g c = record {
  ready = ready_none g.N.Sockets.follows g.N.Sockets.unchanged c.args.self.now.is_ready c.args.sockets.now;
  remain = remain_same c.args.places.now c.args.places.now refl;
}

pub returns-then-not-accept_next-clause-heard : goal.returns-then-not-accept_next-clause-heard
returns-then-not-accept_next-clause-heard g c =
    ready_then g.N.Sockets.follows g.N.Sockets.joined c.args.self.now.is_ready c.seat_one.new.self.is_ready c.accept_next.new.self.is_ready
    c.args.sockets.now c.seat_one.new.sockets c.accept_next.new.sockets
    (ready_then g.N.Sockets.follows g.N.Sockets.joined c.args.self.now.is_ready c.seats.self.is_ready c.seat_one.new.self.is_ready c.args.sockets.now c.seats.sockets c.seat_one.new.sockets
    c.seats.invariant.ready c.seat_one.ensures.heard) c.accept_next.ensures.heard

pub returns-then-not-accept_next-clause-remain : goal.returns-then-not-accept_next-clause-remain
returns-then-not-accept_next-clause-remain g c =
    remain_then c.args.places.now c.seats.places c.seat_one.new.places c.seats.invariant.remain
    (c.seat_one.ensures.remain (vacant_at c.seats.places c.in-Some.place (search rules)))

pub returns-in_default-clause-remain : goal.returns-in_default-clause-remain
returns-in_default-clause-remain g c =
    remain_then c.args.places.now c.seats.places c.make_room.new.self c.seats.invariant.remain (remain_one c.seats.places c.make_room.new.self _ c.make_room.ensures)

pub seats-preserved : goal.seats-preserved
seats-preserved g c = record {
  ready = ready_then g.N.Sockets.follows g.N.Sockets.joined c.args.self.now.is_ready c.seat_one.new.self.is_ready c.accept_next.new.self.is_ready
      c.args.sockets.now c.seat_one.new.sockets c.accept_next.new.sockets
      (ready_then g.N.Sockets.follows g.N.Sockets.joined c.args.self.now.is_ready c.seats.self.is_ready c.seat_one.new.self.is_ready c.args.sockets.now c.seats.sockets c.seat_one.new.sockets
      c.seats.invariant.ready c.seat_one.ensures.heard) c.accept_next.ensures.heard;
  remain = remain_then c.args.places.now c.seats.places c.seat_one.new.places c.seats.invariant.remain
      (c.seat_one.ensures.remain (vacant_at c.seats.places c.in-Some.place (search rules)));
}
