use Rattle.std.proofs.Common.{◌≡◌, Bool, true, is_err, rules, subst, sym}
use Rattle.std.specs.Prelude.{IsTrue}
use Rattle.tb_event_loop.specs.Deeds.{ActsAt, Begins, IsRead, IsTurn}
use Rattle.tb_event_loop.specs.Places.{NeedsBytes, connection_in, is_read, is_turned_in, may_answer_at}
use Rattle.tb_event_loop.proofs.Acting.{acts_at_then}
use Rattle.tb_event_loop.proofs.Doing.{begins_as, begins_then, did_then}
use Rattle.tb_event_loop.proofs.Noting.{counts_kept, kept_then_counts}
use Rattle.tb_event_loop.proofs.Visiting.{answers_or_awaits, from_still}
use Rattle.tb_event_loop.proofs.places.Places.converse.Goals as goal

pub returns-clause-after : goal.returns-clause-after
returns-clause-after g c =
    did_then (ActsAt c.args.place g.N.Sockets.follows g.V.Service.follows g.V.Service.owed_at) (acts_at_then g.N.Sockets.follows g.V.Service.follows g.V.Service.owed_at c.args.place g.N.Sockets.joined) (is_err c.respond.result) 0 0 (c.args.sockets.now, c.args.service.now) (c.read.new.sockets, c.read.new.service) (c.respond.new.sockets, c.respond.new.service)
    c.in_ok-read.ensures.after c.respond.ensures.after

pub returns-clause-turned : goal.returns-clause-turned
returns-clause-turned g c may due =
    let none : NeedsBytes c.args.self.now c.args.place → ⊥ = λ waits. answers_or_awaits (connection_in c.args.self.now c.args.place) (is_read c.args.self.now c.args.place) may waits in
    from_still
    (λ places sockets service. IsTrue (may_answer_at (connection_in places c.args.place))
    → IsTrue (is_turned_in (g.V.Service.gives_file service) places c.args.place c.args.now (g.V.Service.held_at service c.args.place))
    → Begins (ActsAt c.args.place g.N.Sockets.follows g.V.Service.follows g.V.Service.owed_at) (is_err c.respond.result) (IsTurn c.args.place) (sockets, service) (c.respond.new.sockets, c.respond.new.service))
    c.args.self.now c.read.new.self c.args.sockets.now c.read.new.sockets c.args.service.now c.read.new.service
    (c.read.ensures.same none) (c.read.ensures.silent none) (c.read.ensures.passed none) c.respond.ensures.turned may due

pub returns-clause-heard : goal.returns-clause-heard
returns-clause-heard g c needs =
    begins_then (ActsAt c.args.place g.N.Sockets.follows g.V.Service.follows g.V.Service.owed_at) (acts_at_then g.N.Sockets.follows g.V.Service.follows g.V.Service.owed_at c.args.place g.N.Sockets.joined) (is_err c.respond.result) (IsRead c.args.place) (c.args.sockets.now, c.args.service.now) (c.read.new.sockets, c.read.new.service)
    (c.respond.new.sockets, c.respond.new.service) (begins_as _ _ _ _ _ _ (λ deed is. is.0) (c.in_ok-read.ensures.reads needs)) c.respond.ensures.after

pub returns-in_err-read-clause-heard : goal.returns-in_err-read-clause-heard
returns-in_err-read-clause-heard g c needs =
    let failed : is_err c.from_residual.result ≡ true = search rules in
    subst (λ (s : Bool). Begins (ActsAt c.args.place g.N.Sockets.follows g.V.Service.follows g.V.Service.owed_at) s (IsRead c.args.place) (c.args.sockets.now, c.args.service.now) (c.read.new.sockets, c.read.new.service)) (sym failed)
    (begins_as _ _ _ _ _ _ (λ deed is. is.0) (c.in_err-read.ensures.reads needs))

pub returns-in_err-read-clause-counts : goal.returns-in_err-read-clause-counts
returns-in_err-read-clause-counts g c = counts_kept c.args.place c.args.self.now c.read.new.self c.read.ensures.keeps

pub returns-clause-counts : goal.returns-clause-counts
returns-clause-counts g c = kept_then_counts c.args.place c.args.self.now c.read.new.self c.respond.new.self c.read.ensures.keeps c.respond.ensures.counts
