use Rattle.std.proofs.Common.{◌≡◌, ◌∙◌, ℕ, rules, refl, ap, subst, true, false, add-one, arith, min}
use Rattle.std.proofs.Math.Nat.{min-le_right}
use Rattle.tb_event_loop.specs.Deeds.{Acts}
use Rattle.tb_event_loop.specs.Rounds.{VisitsEach, VisitsNext, begun}
use Rattle.tb_event_loop.specs.Sharing.{Shares, place_from}
use Rattle.tb_event_loop.specs.declared.places.Places.{Places}
use Rattle.tb_event_loop.proofs.Acting.{acts_then, did_nothing}
use Rattle.tb_event_loop.proofs.Doing.{goes_on, goes_then}
use Rattle.tb_event_loop.proofs.Rounding.{visits_all}
use Rattle.tb_event_loop.proofs.Serving.{on_err}
use Rattle.tb_event_loop.proofs.Visiting.{next_first, next_goes}
use Rattle.tb_event_loop.proofs.event_loop.EventLoop.round.Goals as goal

pub places-init : goal.places-init
places-init g c =
    let old = c.args.self.now in record {
      goes = goes_on (Acts g.N.Sockets.follows g.V.Service.follows g.V.Service.owed_at) false old.still_to_end (c.args.sockets.now, c.args.service.now) (c.args.sockets.now, c.args.service.now)
          (did_nothing g.N.Sockets.follows g.V.Service.follows g.V.Service.owed_at g.N.Sockets.unchanged c.args.sockets.now c.args.service.now);
      each = (ap (λ (p : Places). record old { seen = old.now; places = p }) c.begin_round.ensures, refl);
      first = ap (λ (p : Places). p.first) c.begin_round.ensures;
    }

pub returns-in_err-visit_next-clause-after : goal.returns-in_err-visit_next-clause-after
returns-in_err-visit_next-clause-after g c =
    let went = next_goes g.N.Sockets.follows g.V.Service.follows g.V.Service.gives_file g.V.Service.held_at g.V.Service.owed_at g.V.Service.wants g.N.Sockets.unchanged true c.place_at-place.result c.places.self c.visit_next.new.self (c.places.sockets, c.places.service) (c.visit_next.new.sockets, c.visit_next.new.service) c.in_err-visit_next.ensures.visits in
    let t = goes_then (Acts g.N.Sockets.follows g.V.Service.follows g.V.Service.owed_at) (acts_then g.N.Sockets.follows g.V.Service.follows g.V.Service.owed_at g.N.Sockets.joined) true c.args.self.now.still_to_end c.places.self.still_to_end c.visit_next.new.self.still_to_end
    (c.args.sockets.now, c.args.service.now) (c.places.sockets, c.places.service) (c.visit_next.new.sockets, c.visit_next.new.service) c.places.invariant.goes went in
    search rules

pub returns-in_err-visit_next-clause-cut : goal.returns-in_err-visit_next-clause-cut
returns-in_err-visit_next-clause-cut g c =
    let old = c.args.self.now in
    let end : c.begin_round.new.self.end ≡ old.places.end = ap (λ (p : Places). p.end) c.begin_round.ensures in
    let at : c.place_at-place.result ≡ place_from (min old.places.first old.places.end) c.places.step old.places.end =
    c.place_at-place.ensures ∙ ap (λ (f : ℕ). place_from f c.places.step c.begin_round.new.self.end) c.places.invariant.first
    ∙ ap (λ (e : ℕ). place_from (min old.places.first old.places.end) c.places.step e) end in
    on_err c.from_residual.result (search rules) (record {
      step = c.places.step;
      within = omega (arith, end);
      between = c.places.self;
      middle = (c.places.sockets, c.places.service);
      each = c.places.invariant.each;
      failed = subst (λ (place : ℕ). VisitsNext g.N.Sockets.follows g.V.Service.follows g.V.Service.gives_file g.V.Service.held_at g.V.Service.owed_at g.V.Service.wants true place c.places.self c.visit_next.new.self (c.places.sockets, c.places.service) (c.visit_next.new.sockets, c.visit_next.new.service)) at c.in_err-visit_next.ensures.visits;
    })

pub places-preserved : goal.places-preserved
places-preserved g c =
    let old = c.args.self.now in
    let invariant = c.places.invariant in
    let visits = c.in_ok-visit_next.ensures.visits in
    let went = next_goes g.N.Sockets.follows g.V.Service.follows g.V.Service.gives_file g.V.Service.held_at g.V.Service.owed_at g.V.Service.wants g.N.Sockets.unchanged false c.place_at-place.result c.places.self c.visit_next.new.self (c.places.sockets, c.places.service) (c.visit_next.new.sockets, c.visit_next.new.service) visits in
    let end : c.begin_round.new.self.end ≡ old.places.end = ap (λ (p : Places). p.end) c.begin_round.ensures in
    let at : c.place_at-place.result ≡ place_from (min old.places.first old.places.end) c.places.step old.places.end =
    c.place_at-place.ensures ∙ ap (λ (f : ℕ). place_from f c.places.step c.begin_round.new.self.end) invariant.first
    ∙ ap (λ (e : ℕ). place_from (min old.places.first old.places.end) c.places.step e) end in
    record {
      goes = goes_then (Acts g.N.Sockets.follows g.V.Service.follows g.V.Service.owed_at) (acts_then g.N.Sockets.follows g.V.Service.follows g.V.Service.owed_at g.N.Sockets.joined) false old.still_to_end c.places.self.still_to_end c.visit_next.new.self.still_to_end
          (c.args.sockets.now, c.args.service.now) (c.places.sockets, c.places.service) (c.visit_next.new.sockets, c.visit_next.new.service) invariant.goes went;
      each = rw add-one (
        c.places.self,
        (c.places.sockets, c.places.service),
        invariant.each,
        subst (λ (place : ℕ). VisitsNext g.N.Sockets.follows g.V.Service.follows g.V.Service.gives_file g.V.Service.held_at g.V.Service.owed_at g.V.Service.wants false place c.places.self c.visit_next.new.self (c.places.sockets, c.places.service) (c.visit_next.new.sockets, c.visit_next.new.service)) at visits,
      );
      first = next_first g.N.Sockets.follows g.V.Service.follows g.V.Service.gives_file g.V.Service.held_at g.V.Service.owed_at g.V.Service.wants false c.place_at-place.result c.places.self c.visit_next.new.self (c.places.sockets, c.places.service) (c.visit_next.new.sockets, c.visit_next.new.service) visits ∙ invariant.first;
    }

pub returns-clause-visits : goal.returns-clause-visits
returns-clause-visits g c =
    let old = c.args.self.now in
    let end : c.begin_round.new.self.end ≡ old.places.end = ap (λ (p : Places). p.end) c.begin_round.ensures in
    let all : c.places.step ≡ c.begin_round.new.self.end = omega arith in
    record {
      last = c.places.self;
      each = subst (λ (count : ℕ). VisitsEach g.N.Sockets.follows g.V.Service.follows g.V.Service.gives_file g.V.Service.held_at g.V.Service.owed_at g.V.Service.wants (min old.places.first old.places.end) old.places.end count (begun old) c.places.self (c.args.sockets.now, c.args.service.now) (c.places.sockets, c.places.service))
          (all ∙ end) c.places.invariant.each;
      shared = subst (λ (p : Places). Shares p c.share.new.self c.places.self.now) c.end_round.ensures c.share.ensures;
      rest = refl;
    }

pub returns-clause-each : goal.returns-clause-each
returns-clause-each g c place below =
    let old = c.args.self.now in
    let end : c.begin_round.new.self.end ≡ old.places.end = ap (λ (p : Places). p.end) c.begin_round.ensures in
    let all : c.places.step ≡ c.begin_round.new.self.end = search rules in
    visits_all g.N.Sockets.follows g.V.Service.follows g.V.Service.gives_file g.V.Service.held_at g.V.Service.owed_at g.V.Service.wants g.N.Sockets.unchanged g.N.Sockets.joined (min old.places.first old.places.end) old.places.end place (begun old) c.places.self
    (c.args.sockets.now, c.args.service.now) (c.places.sockets, c.places.service) (min-le_right old.places.first old.places.end) below
    (subst (λ (count : ℕ). VisitsEach g.N.Sockets.follows g.V.Service.follows g.V.Service.gives_file g.V.Service.held_at g.V.Service.owed_at g.V.Service.wants (min old.places.first old.places.end) old.places.end count (begun old) c.places.self (c.args.sockets.now, c.args.service.now) (c.places.sockets, c.places.service))
    (all ∙ end) c.places.invariant.each)
