use Rattle.std.proofs.Common.{◌≡◌, ◌∙◌, ◌-◌, ℕ, Bool, rules, refl, sym, ap, subst, is_err, true, false, true≢false}
use Rattle.std.proofs.lemmas.Bool.{both_ways, cases_Bool}
use Rattle.tb_event_loop.specs.Places.{connection_in, is_leaving, is_over_at}
use Rattle.tb_event_loop.specs.Rounds.{Visits}
use Rattle.tb_event_loop.proofs.Noting.{kept_begun, noted_by}
use Rattle.tb_event_loop.proofs.Sparing.{begun_spares, spares_noted, spares_same, spares_then}
use Rattle.tb_event_loop.proofs.Visiting.{unvisited, visited}
use Rattle.tb_event_loop.proofs.event_loop.EventLoop.visit.Goals as goal

pub returns-then-not-begin_turn-clause-visits : goal.returns-then-not-begin_turn-clause-visits
returns-then-not-begin_turn-clause-visits g c =
    let none : c.begin_turn.result ≡ false = search rules in
    unvisited g.N.Sockets.follows g.V.Service.follows g.V.Service.gives_file g.V.Service.held_at g.V.Service.owed_at g.V.Service.wants g.N.Sockets.unchanged c.args.place c.args.self.now c.begin_turn.new.self c.args.sockets.now c.begin_turn.new.sockets c.args.service.now
    (λ has. both_ways c.begin_turn.result none (c.begin_turn.ensures.turn.1 has)) c.begin_turn.ensures.same c.begin_turn.ensures.silent

pub returns-in_err-take_turn-clause-visits : goal.returns-in_err-take_turn-clause-visits
returns-in_err-take_turn-clause-visits g c =
    let failed : is_err c.from_residual.result ≡ true = search rules in
    let has : c.begin_turn.result ≡ true = search rules in
    subst (λ (s : Bool). Visits g.N.Sockets.follows g.V.Service.follows g.V.Service.gives_file g.V.Service.held_at g.V.Service.owed_at g.V.Service.wants s c.args.place c.args.self.now c.take_turn.new.self (c.args.sockets.now, c.args.service.now) (c.take_turn.new.sockets, c.take_turn.new.service)) (sym failed)
    (visited g.N.Sockets.follows g.V.Service.follows g.V.Service.gives_file g.V.Service.held_at g.V.Service.owed_at g.V.Service.wants g.N.Sockets.joined true c.args.place c.args.self.now c.take_turn.new.self c.begin_turn.new.self c.take_turn.new.self.places
    c.args.sockets.now c.begin_turn.new.sockets c.args.service.now (c.take_turn.new.sockets, c.take_turn.new.service) c.take_turn.new.self.still_to_end
    (c.begin_turn.ensures.turn.0 has) c.begin_turn.ensures.over c.begin_turn.ensures.same c.begin_turn.ensures.quiet
    c.in_err-take_turn.ensures.turn refl c.in_err-take_turn.ensures.spares (spares_same c.args.place c.take_turn.new.self.places c.take_turn.new.self.places refl)
    c.in_err-take_turn.ensures.moment (λ goes. absurd (true≢false goes)) (λ goes. absurd (true≢false goes)))

pub returns-clause-visits : goal.returns-clause-visits
returns-clause-visits g c =
    let has : c.begin_turn.result ≡ true = search rules in
    let freed : is_leaving (connection_in c.count_time.new.self.places c.args.place) ≡ false = search rules in
    let begun = begun_spares c.args.place c.args.self.now.places c.begin_turn.new.self c.args.self.now.now c.begin_turn.ensures.over c.begin_turn.ensures.same
    (cases_Bool (is_over_at c.args.self.now.places c.args.place c.args.self.now.now)) in
    let noted = spares_noted c.args.place c.take_turn.new.self.places c.note.new.self _ c.note.ensures.holds.2.0 c.note.ensures.others in
    visited g.N.Sockets.follows g.V.Service.follows g.V.Service.gives_file g.V.Service.held_at g.V.Service.owed_at g.V.Service.wants g.N.Sockets.joined false c.args.place c.args.self.now c.count_time.new.self c.begin_turn.new.self c.take_turn.new.self.places
    c.args.sockets.now c.begin_turn.new.sockets c.args.service.now (c.take_turn.new.sockets, c.take_turn.new.service) c.take_turn.new.self.still_to_end
    (c.begin_turn.ensures.turn.0 has) c.begin_turn.ensures.over c.begin_turn.ensures.same c.begin_turn.ensures.quiet
    c.in_ok-take_turn.ensures.turn c.count_time.ensures.limit c.in_ok-take_turn.ensures.spares
    (spares_then c.args.place c.take_turn.new.self.places c.note.new.self c.count_time.new.self.places noted c.count_time.ensures.spares)
    (c.count_time.ensures.moment ∙ c.in_ok-take_turn.ensures.moment)
    (λ goes. noted_by g.V.Service.wants g.V.Service.owed_at c.args.place c.args.self.now c.count_time.new.self c.begin_turn.new.self c.take_turn.new.self.places c.note.new.self c.take_turn.new.service
    c.note.ensures.holds.0 (c.count_time.new.self.seen - c.take_turn.new.self.seen)
    (kept_begun c.args.place c.args.self.now.places c.begin_turn.new.self c.args.self.now.now c.begin_turn.ensures.over c.begin_turn.ensures.same (cases_Bool (is_over_at c.args.self.now.places c.args.place c.args.self.now.now)))
    c.in_ok-take_turn.ensures.held c.note.ensures.holds.1 c.note.ensures.holds.2 c.note.ensures.others c.count_time.ensures.counted
    (ap (λ (n : ℕ). c.count_time.new.self.seen - n) c.in_ok-take_turn.ensures.seen)
    (spares_then c.args.place c.args.self.now.places c.begin_turn.new.self c.take_turn.new.self.places begun c.in_ok-take_turn.ensures.spares).round
    (spares_then c.args.place c.args.self.now.places c.begin_turn.new.self c.take_turn.new.self.places begun c.in_ok-take_turn.ensures.spares).rooms)
    (λ goes. freed)
