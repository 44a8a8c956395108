use Rattle.std.proofs.Common.{◌∙◌, Bool, ap, subst, List}
use Rattle.tb_event_loop.specs.Arrivals.{StaysReady, may_accept, told_of}
use Rattle.tb_event_loop.specs.declared.arrivals.Arrivals.{Arrivals}
use Rattle.tb_event_loop.specs.declared.sockets.Told.{Told}
use Rattle.tb_event_loop.specs.Hearing.{Hears}
use Rattle.tb_event_loop.proofs.Hearing.{hears}
use Rattle.tb_event_loop.proofs.event_loop.EventLoop.prepare.Goals as goal

pub returns-clause-heard : goal.returns-clause-heard
returns-clause-heard g c =
    let old = c.args.self.now.arrivals in
    let heard = c.hear.ensures ∙ ap (λ (told : List Told). told_of told old) c.told.ensures in
    subst (λ (ready : Bool). StaysReady g.N.Sockets.follows ready c.seat_all.new.self.is_ready c.args.sockets.now c.seat_all.new.sockets)
    (ap (λ (a : Arrivals). a.is_ready) heard) c.seat_all.ensures.heard

pub returns-clause-tried : goal.returns-clause-tried
returns-clause-tried g c none may =
    let old = c.args.self.now.arrivals in
    let heard = c.hear.ensures ∙ ap (λ (told : List Told). told_of told old) c.told.ensures in
    c.seat_all.ensures.tried (ap (λ (a : Arrivals). a.is_waiting) heard ∙ none) (ap (λ (a : Arrivals). may_accept a c.now-self.result) heard ∙ may)

pub returns-clause-marks : goal.returns-clause-marks
returns-clause-marks g c =
    subst (λ (told : List Told). Hears told c.args.self.now.places c.seat_all.new.places) c.told-2.ensures
    (hears c.told-2.result.now c.args.self.now.places c.mark_ready.new.self c.seat_all.new.places c.mark_ready.ensures.marks c.mark_ready.ensures.same c.seat_all.ensures.remain)

pub returns-clause-moment : goal.returns-clause-moment
returns-clause-moment g c =
    let shown = c.now-self.ensures.shown in (shown.0, c.now-self.new.self.ticks, shown.1, c.now-self.ensures.told ∙ shown.2)
