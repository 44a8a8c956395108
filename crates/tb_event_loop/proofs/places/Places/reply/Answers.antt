use Rattle.std.proofs.Common.{◌≡◌, Bool, false, true, is_err, rules, subst, sym}
use Rattle.tb_event_loop.specs.Deeds.{ActsAt, Begins, IsWrite}
use Rattle.tb_event_loop.proofs.Acting.{acts_at_then, at_quiet}
use Rattle.tb_event_loop.proofs.Doing.{begins_as, begins_then, did_then}
use Rattle.tb_event_loop.proofs.Noting.{kept_settled, kept_then}
use Rattle.tb_event_loop.proofs.Sparing.{spares_settled, spares_then}
use Rattle.tb_event_loop.proofs.places.Places.reply.Goals as goal

pub returns-clause-after : goal.returns-clause-after
returns-clause-after g c =
    did_then (ActsAt c.args.place g.N.Sockets.follows g.V.Service.follows g.V.Service.owed_at) (acts_at_then g.N.Sockets.follows g.V.Service.follows g.V.Service.owed_at c.args.place g.N.Sockets.joined) false 0 0 (c.args.sockets.now, c.args.service.now) (c.write.new.sockets, c.write.new.service) (c.settle.new.sockets, c.write.new.service)
    c.in_ok-write.ensures.after (at_quiet g.N.Sockets.follows g.V.Service.follows g.V.Service.owed_at c.args.place c.write.new.sockets c.settle.new.sockets c.write.new.service c.settle.ensures.quiet)

pub returns-clause-writes : goal.returns-clause-writes
returns-clause-writes g c owes can =
    begins_then (ActsAt c.args.place g.N.Sockets.follows g.V.Service.follows g.V.Service.owed_at) (acts_at_then g.N.Sockets.follows g.V.Service.follows g.V.Service.owed_at c.args.place g.N.Sockets.joined) false (IsWrite c.args.place) (c.args.sockets.now, c.args.service.now) (c.write.new.sockets, c.write.new.service) (c.settle.new.sockets, c.write.new.service)
    (begins_as _ _ _ _ _ _ (λ deed is. is.0) (c.in_ok-write.ensures.writes owes can)) (at_quiet g.N.Sockets.follows g.V.Service.follows g.V.Service.owed_at c.args.place c.write.new.sockets c.settle.new.sockets c.write.new.service c.settle.ensures.quiet)

pub returns-clause-spares : goal.returns-clause-spares
returns-clause-spares g c =
    spares_then c.args.place c.args.self.now c.write.new.self c.settle.new.self c.write.ensures.spares (spares_settled c.args.place c.args.now c.write.new.self c.settle.new.self _ _ _ c.settle.ensures.settled)

pub returns-in_err-write-clause-writes : goal.returns-in_err-write-clause-writes
returns-in_err-write-clause-writes g c owes can =
    let failed : is_err c.from_residual.result ≡ true = search rules in
    subst (λ (s : Bool). Begins (ActsAt c.args.place g.N.Sockets.follows g.V.Service.follows g.V.Service.owed_at) s (IsWrite c.args.place) (c.args.sockets.now, c.args.service.now) (c.write.new.sockets, c.write.new.service)) (sym failed)
    (begins_as _ _ _ _ _ _ (λ deed is. is.0) (c.in_err-write.ensures.writes owes can))

pub returns-clause-keeps : goal.returns-clause-keeps
returns-clause-keeps g c =
    kept_then c.args.self.now c.write.new.self c.settle.new.self c.write.ensures.keeps (kept_settled c.args.place c.args.now c.write.new.self c.settle.new.self _ _ _ c.settle.ensures.settled)
