use Rattle.std.proofs.Common.{◌≡◌, Bool, rules, sym, subst, is_err, true, false}
use Rattle.tb_event_loop.specs.Deeds.{ActsAt, Begins, Did, IsTurn}
use Rattle.tb_event_loop.proofs.Acting.{acts_at_then, begins_turn, did_turn}
use Rattle.tb_event_loop.proofs.Doing.{begins_then, did_then}
use Rattle.tb_event_loop.proofs.Noting.{counts_then_kept}
use Rattle.tb_event_loop.proofs.places.Places.respond.Goals as goal

pub returns-in_err-answer-clause-after : goal.returns-in_err-answer-clause-after
returns-in_err-answer-clause-after g c =
    let is : is_err c.from_residual.result ≡ true = search rules in
    subst (λ (s : Bool). Did (ActsAt c.args.place g.N.Sockets.follows g.V.Service.follows g.V.Service.owed_at) s 0 (c.args.sockets.now, c.args.service.now) (c.args.sockets.now, c.answer.new.service)) (sym is)
    (did_turn g.N.Sockets.follows g.V.Service.follows g.V.Service.owed_at g.N.Sockets.unchanged true c.args.place c.args.sockets.now c.args.service.now c.answer.new.service c.in_err-answer.ensures.after)

pub returns-in_err-answer-clause-turned : goal.returns-in_err-answer-clause-turned
returns-in_err-answer-clause-turned g c is due =
    let failed : is_err c.from_residual.result ≡ true = search rules in
    subst (λ (s : Bool). Begins (ActsAt c.args.place g.N.Sockets.follows g.V.Service.follows g.V.Service.owed_at) s (IsTurn c.args.place) (c.args.sockets.now, c.args.service.now) (c.args.sockets.now, c.answer.new.service)) (sym failed)
    (begins_turn g.N.Sockets.follows g.V.Service.follows g.V.Service.owed_at g.N.Sockets.unchanged true c.args.place c.args.sockets.now c.args.service.now c.answer.new.service
    (c.in_err-answer.ensures.turned is due))

pub returns-clause-after : goal.returns-clause-after
returns-clause-after g c =
    did_then (ActsAt c.args.place g.N.Sockets.follows g.V.Service.follows g.V.Service.owed_at) (acts_at_then g.N.Sockets.follows g.V.Service.follows g.V.Service.owed_at c.args.place g.N.Sockets.joined) (is_err c.reply.result) 0 0 (c.args.sockets.now, c.args.service.now) (c.args.sockets.now, c.answer.new.service) (c.reply.new.sockets, c.reply.new.service)
    (did_turn g.N.Sockets.follows g.V.Service.follows g.V.Service.owed_at g.N.Sockets.unchanged false c.args.place c.args.sockets.now c.args.service.now c.answer.new.service c.in_ok-answer.ensures.after) c.reply.ensures.after

pub returns-clause-turned : goal.returns-clause-turned
returns-clause-turned g c is due =
    begins_then (ActsAt c.args.place g.N.Sockets.follows g.V.Service.follows g.V.Service.owed_at) (acts_at_then g.N.Sockets.follows g.V.Service.follows g.V.Service.owed_at c.args.place g.N.Sockets.joined) (is_err c.reply.result) (IsTurn c.args.place) (c.args.sockets.now, c.args.service.now) (c.args.sockets.now, c.answer.new.service)
    (c.reply.new.sockets, c.reply.new.service)
    (begins_turn g.N.Sockets.follows g.V.Service.follows g.V.Service.owed_at g.N.Sockets.unchanged false c.args.place c.args.sockets.now c.args.service.now c.answer.new.service (c.in_ok-answer.ensures.turned is due)) c.reply.ensures.after

pub returns-clause-counts : goal.returns-clause-counts
returns-clause-counts g c = counts_then_kept c.args.place c.args.self.now c.answer.new.self c.reply.new.self c.answer.ensures.counts c.reply.ensures.keeps
