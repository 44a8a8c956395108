use Rattle.std.proofs.Common.{◌≡◌, ◌∙◌, ap, rules, refl, sym, true, false, is_err}
use Rattle.std.specs.Prelude.{if◌then◌else◌}
use Rattle.tb_event_loop.specs.Sharing.{with_cut}
use Rattle.tb_event_loop.specs.declared.places.Places.{Places}
use Rattle.tb_event_loop.proofs.Visiting.{next_put_back, next_visited}
use Rattle.tb_event_loop.proofs.event_loop.EventLoop.visit_next.Goals as goal

pub returns-then-is_put_back-clause-visits : goal.returns-then-is_put_back-clause-visits
returns-then-is_put_back-clause-visits g c =
    let is : c.is_put_back.result ≡ true = search rules in
    let old = c.args.self.now in
    let cut = c.is_put_back.ensures.cut ∙ ap (λ b. if b then with_cut old.places c.args.place else old.places) is in
    next_put_back g.N.Sockets.follows g.V.Service.follows g.V.Service.gives_file g.V.Service.held_at g.V.Service.owed_at g.V.Service.wants false c.args.place old (record old { places = c.is_put_back.new.self }) (c.args.sockets.now, c.args.service.now) (c.args.sockets.now, c.args.service.now)
    (sym c.is_put_back.ensures.later ∙ is) refl refl (ap (λ (p : Places). record old { places = p }) cut)

pub returns-clause-visits : goal.returns-clause-visits
returns-clause-visits g c =
    let isnt : c.is_put_back.result ≡ false = search rules in
    let old = c.args.self.now in
    let cut = c.is_put_back.ensures.cut ∙ ap (λ b. if b then with_cut old.places c.args.place else old.places) isnt in
    next_visited g.N.Sockets.follows g.V.Service.follows g.V.Service.gives_file g.V.Service.held_at g.V.Service.owed_at g.V.Service.wants (is_err c.visit.result) c.args.place old c.visit.new.self (c.args.sockets.now, c.args.service.now) (c.visit.new.sockets, c.visit.new.service)
    (sym c.is_put_back.ensures.later ∙ isnt) (rw cut at c.visit.ensures.visits)
