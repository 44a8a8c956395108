use Rattle.tb_event_loop.proofs.Arriving.{ready_seated}
use Rattle.tb_event_loop.proofs.Hearing.{remain_left, remain_seated, remain_then}
use Rattle.tb_event_loop.proofs.arrivals.Arrivals.seat_one.Goals as goal

pub returns-then-not-is_told_of-clause-heard : goal.returns-then-not-is_told_of-clause-heard
returns-then-not-is_told_of-clause-heard g c =
    ready_seated g.N.Sockets.follows c.args.self.now.is_ready c.args.place c.seat-is_told_of.result c.args.sockets.now c.seat-is_told_of.new.self
    c.seat-is_told_of.ensures

pub returns-else-not-is_told_of-clause-heard : goal.returns-else-not-is_told_of-clause-heard
returns-else-not-is_told_of-clause-heard g c =
    ready_seated g.N.Sockets.follows c.args.self.now.is_ready c.args.place c.seat-is_told_of.result c.args.sockets.now c.seat-is_told_of.new.self
    c.seat-is_told_of.ensures

pub returns-then-not-is_told_of-clause-remain : goal.returns-then-not-is_told_of-clause-remain
returns-then-not-is_told_of-clause-remain g c vacant =
    remain_then c.args.places.now c.seat.new.self c.let_go.new.self (remain_seated c.args.place c.args.now c.args.places.now c.seat.new.self c.seat.ensures vacant)
    (remain_left c.args.place c.seat.new.self c.let_go.new.self c.let_go.ensures)

pub returns-else-not-is_told_of-clause-remain : goal.returns-else-not-is_told_of-clause-remain
returns-else-not-is_told_of-clause-remain g c vacant = remain_seated c.args.place c.args.now c.args.places.now c.seat.new.self c.seat.ensures vacant
