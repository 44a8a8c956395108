use Rattle.std.proofs.Common.{◌≡◌, ◌∙◌, Bool, rules, refl, sym, subst, is_err, true, false}
use Rattle.std.proofs.lemmas.Bool.{both_ways, false≢true}
use Rattle.tb_event_loop.specs.Deeds.{ActsAt}
use Rattle.tb_event_loop.specs.History.{GoesBy}
use Rattle.tb_event_loop.specs.Places.{connection_in, is_leaving}
use Rattle.tb_event_loop.specs.Rounds.{IsTurnOrEnd}
use Rattle.tb_event_loop.specs.declared.places.Places.{Places}
use Rattle.tb_event_loop.proofs.Acting.{acts_at_then}
use Rattle.tb_event_loop.proofs.Doing.{leaves_none}
use Rattle.tb_event_loop.proofs.Noting.{holds_counted, holds_vacated}
use Rattle.tb_event_loop.proofs.Serving.{on_any}
use Rattle.tb_event_loop.proofs.Sparing.{spares_then, spares_vacated}
use Rattle.tb_event_loop.proofs.Visiting.{turn_on, turn_then}
use Rattle.tb_event_loop.proofs.event_loop.EventLoop.take_turn.Goals as goal

pub returns-in_err-act-clause-turn : goal.returns-in_err-act-clause-turn
returns-in_err-act-clause-turn g c =
    let failed : is_err c.from_residual.result ≡ true = search rules in
    subst (λ (s : Bool). GoesBy (ActsAt c.args.place g.N.Sockets.follows g.V.Service.follows g.V.Service.owed_at) s (IsTurnOrEnd (g.V.Service.gives_file c.args.service.now) c.args.self.now.places c.args.place c.args.self.now.now (g.V.Service.held_at c.args.service.now c.args.place) (g.V.Service.owed_at c.args.service.now c.args.place) c.args.self.now.still_to_end) c.args.self.now.still_to_end c.args.self.now.still_to_end (c.args.sockets.now, c.args.service.now) (c.act.new.sockets, c.act.new.service)) (sym failed)
    (turn_on (g.V.Service.gives_file c.args.service.now) c.args.self.now.places c.args.place c.args.self.now.now (g.V.Service.held_at c.args.service.now c.args.place) (g.V.Service.owed_at c.args.service.now c.args.place) (ActsAt c.args.place g.N.Sockets.follows g.V.Service.follows g.V.Service.owed_at) true (c.args.sockets.now, c.args.service.now) (c.act.new.sockets, c.act.new.service) c.args.self.now.still_to_end (leaves_none c.args.self.now.still_to_end c.args.self.now.still_to_end refl) (λ leaving. false≢true (c.in_err-act.ensures.gone leaving).1)
    c.in_err-act.ensures.after c.in_err-act.ensures.turned c.in_err-act.ensures.written c.in_err-act.ensures.heard)

pub returns-then-not-is_gone-clause-turn : goal.returns-then-not-is_gone-clause-turn
returns-then-not-is_gone-clause-turn g c =
    let none : c.is_gone.result ≡ false = search rules in
    let stays : is_leaving (connection_in c.act.new.self c.args.place) ≡ false = sym c.is_gone.ensures ∙ none in
    turn_on (g.V.Service.gives_file c.args.service.now) c.args.self.now.places c.args.place c.args.self.now.now (g.V.Service.held_at c.args.service.now c.args.place) (g.V.Service.owed_at c.args.service.now c.args.place) (ActsAt c.args.place g.N.Sockets.follows g.V.Service.follows g.V.Service.owed_at) false (c.args.sockets.now, c.args.service.now) (c.act.new.sockets, c.act.new.service) c.args.self.now.still_to_end (leaves_none c.args.self.now.still_to_end c.args.self.now.still_to_end refl)
    (λ leaving. both_ways (is_leaving (connection_in c.act.new.self c.args.place)) stays (subst (λ (p : Places). is_leaving (connection_in p c.args.place) ≡ true) (sym (c.in_ok-act.ensures.gone leaving).0) leaving))
    c.in_ok-act.ensures.after c.in_ok-act.ensures.turned c.in_ok-act.ensures.written c.in_ok-act.ensures.heard

pub returns-clause-turn : goal.returns-clause-turn
returns-clause-turn g c =
    turn_then (g.V.Service.gives_file c.args.service.now) c.args.self.now.places c.args.place c.args.self.now.now (g.V.Service.held_at c.args.service.now c.args.place) (g.V.Service.owed_at c.args.service.now c.args.place) (ActsAt c.args.place g.N.Sockets.follows g.V.Service.follows g.V.Service.owed_at) (acts_at_then g.N.Sockets.follows g.V.Service.follows g.V.Service.owed_at c.args.place g.N.Sockets.joined) (is_err c.leave.result) c.args.self.now.still_to_end c.leave.new.self.still_to_end (c.args.sockets.now, c.args.service.now) (c.act.new.sockets, c.act.new.service) (c.leave.new.sockets, c.leave.new.service)
    c.in_ok-act.ensures.after c.in_ok-act.ensures.turned c.in_ok-act.ensures.written c.in_ok-act.ensures.heard c.leave.ensures.after

pub returns-clause-spares : goal.returns-clause-spares
returns-clause-spares g c = spares_then c.args.place c.args.self.now.places c.act.new.self c.leave.new.self.places c.in_ok-act.ensures.spares (spares_vacated c.args.place c.act.new.self c.leave.new.self.places c.leave.ensures.vacated)

pub returns-then-not-is_gone-clause-held : goal.returns-then-not-is_gone-clause-held
returns-then-not-is_gone-clause-held g c = holds_counted c.args.place c.args.self.now.places c.act.new.self c.act.ensures.counts

pub returns-clause-held : goal.returns-clause-held
returns-clause-held g c =
    on_any c.leave.result (holds_vacated c.args.place c.args.self.now.places c.act.new.self c.leave.new.self.places c.act.ensures.counts c.leave.ensures.vacated)
