use Rattle.std.proofs.Common.{◌≡◌, Bool, rules, refl, subst, is_err, true, false, [], ◌∷◌, inl, inr, arith, add-one}
use Rattle.tb_event_loop.specs.Deeds.{Acts}
use Rattle.tb_event_loop.specs.History.{Goes}
use Rattle.tb_event_loop.specs.Sockets.{deaf, waited}
use Rattle.tb_event_loop.specs.declared.fault.LoopFault.{LoopFault}
use Rattle.tb_event_loop.specs.declared.fault.LoopFault.TheVariants.{Moved, Sockets, Store}
use Rattle.tb_event_loop.proofs.Acting.{acts_then, did_nothing, quiet_one}
use Rattle.tb_event_loop.proofs.Arriving.{quiet_ready}
use Rattle.tb_event_loop.proofs.Doing.{goes_on, goes_then}
use Rattle.tb_event_loop.proofs.Serving.{asked_more, by_err, goes_quiet, on_ok, runs_early, runs_failed, runs_well}
use Rattle.tb_event_loop.proofs.event_loop.EventLoop.serve.Goals as goal

pub rounds-init : goal.rounds-init
rounds-init g c = record {
  goes = goes_on (Acts g.N.Sockets.follows g.V.Service.follows g.V.Service.owed_at) false c.args.self.now.still_to_end (c.args.sockets.now, c.args.service.now) (c.args.sockets.now, c.args.service.now)
      (did_nothing g.N.Sockets.follows g.V.Service.follows g.V.Service.owed_at g.N.Sockets.unchanged c.args.sockets.now c.args.service.now);
  asked = record { calls = []; made = g.N.Sockets.unchanged c.args.sockets.now; size = omega arith };
  laps = (refl, refl);
}

pub returns-then-has_ended_all-clause-after : goal.returns-then-has_ended_all-clause-after
returns-then-has_ended_all-clause-after g c =
    runs_well g.N.Sockets.follows g.V.Service.follows g.V.Service.owed_at g.N.Sockets.joined g.V.Service.unchanged g.V.Service.joined LoopFault c.args.self.now.still_to_end c.rounds.self.still_to_end (c.args.sockets.now, c.args.service.now) (c.rounds.sockets, c.rounds.service) c.rounds.invariant.goes (c.has_ended_all.ensures (search rules))

pub returns-then-has_ended_all-clause-laps : goal.returns-then-has_ended_all-clause-laps
returns-then-has_ended_all-clause-laps g c =
    record {
      count = c.rounds.counter;
      last = c.rounds.self;
      end = (c.rounds.sockets, c.rounds.service, c.rounds.watch);
      laps = c.rounds.invariant.laps;
      ended = refl;
    }

pub returns-then-not-wait-clause-after : goal.returns-then-not-wait-clause-after
returns-then-not-wait-clause-after g c =
    runs_early g.N.Sockets.follows g.V.Service.follows g.V.Service.owed_at g.N.Sockets.joined g.V.Service.unchanged g.V.Service.joined Sockets c.args.self.now.still_to_end c.rounds.self.still_to_end (c.args.sockets.now, c.args.service.now) (c.wait.new.sockets, c.rounds.service)
    (goes_quiet g.N.Sockets.follows g.V.Service.follows g.V.Service.owed_at g.N.Sockets.joined c.args.self.now.still_to_end c.rounds.self.still_to_end c.rounds.self.still_to_end (c.args.sockets.now, c.args.service.now) c.rounds.sockets c.wait.new.sockets c.rounds.service
    (c.rounds.invariant.goes) refl
    (quiet_one g.N.Sockets.follows deaf refl c.rounds.sockets c.wait.new.sockets (c.wait.ensures.deaf (search rules))))

pub returns-then-not-wait-clause-laps : goal.returns-then-not-wait-clause-laps
returns-then-not-wait-clause-laps g c =
    record {
      count = c.rounds.counter;
      last = c.rounds.self;
      end = (c.rounds.sockets, c.rounds.service, c.rounds.watch);
      laps = c.rounds.invariant.laps;
      ended = (inl (c.wait.ensures.deaf (search rules)), refl, refl);
    }

pub returns-then-not-wait-clause-cause : goal.returns-then-not-wait-clause-cause
returns-then-not-wait-clause-cause g c is =
    let asked = c.rounds.invariant.asked in
    (asked.calls, inl (g.N.Sockets.joined asked.calls (deaf ∷ []) c.args.sockets.now c.rounds.sockets c.wait.new.sockets asked.made (c.wait.ensures.deaf (search rules))))

pub returns-then-has_moved-clause-after : goal.returns-then-has_moved-clause-after
returns-then-has_moved-clause-after g c =
    runs_early g.N.Sockets.follows g.V.Service.follows g.V.Service.owed_at g.N.Sockets.joined g.V.Service.unchanged g.V.Service.joined Moved c.args.self.now.still_to_end c.prepare.new.self.still_to_end (c.args.sockets.now, c.args.service.now) (c.prepare.new.sockets, c.rounds.service)
    (goes_quiet g.N.Sockets.follows g.V.Service.follows g.V.Service.owed_at g.N.Sockets.joined c.args.self.now.still_to_end c.rounds.self.still_to_end c.prepare.new.self.still_to_end (c.args.sockets.now, c.args.service.now) c.wait.new.sockets c.prepare.new.sockets c.rounds.service
    (goes_quiet g.N.Sockets.follows g.V.Service.follows g.V.Service.owed_at g.N.Sockets.joined c.args.self.now.still_to_end c.rounds.self.still_to_end c.rounds.self.still_to_end (c.args.sockets.now, c.args.service.now) c.rounds.sockets c.wait.new.sockets c.rounds.service
    (c.rounds.invariant.goes) refl
    (quiet_one g.N.Sockets.follows (waited (c.wait.ensures.heard (search rules)).0 _) refl c.rounds.sockets c.wait.new.sockets (c.wait.ensures.heard (search rules)).2)) c.prepare.ensures.limit (quiet_ready g.N.Sockets.follows _ _ c.wait.new.sockets c.prepare.new.sockets c.prepare.ensures.heard))

pub returns-then-has_moved-clause-laps : goal.returns-then-has_moved-clause-laps
returns-then-has_moved-clause-laps g c =
    record {
      count = c.rounds.counter;
      last = c.rounds.self;
      end = (c.rounds.sockets, c.rounds.service, c.rounds.watch);
      laps = c.rounds.invariant.laps;
      ended = (
        c.prepare.new.self,
        record {
          millis = (c.wait.ensures.heard (search rules)).0;
          limit = (c.wait.ensures.heard (search rules)).1;
          heard = c.wait.new.sockets;
          waits = (c.wait.ensures.heard (search rules)).2;
          hears = c.prepare.ensures.heard;
          tries = c.prepare.ensures.tried;
          marks = c.prepare.ensures.marks;
        },
        c.has_moved.ensures.moved (search rules),
        refl,
      );
    }

pub returns-then-is_err-clause-after : goal.returns-then-is_err-clause-after
returns-then-is_err-clause-after g c =
    let is : is_err c.round.result ≡ true = search rules in
    runs_failed g.N.Sockets.follows g.V.Service.follows g.V.Service.owed_at g.N.Sockets.joined g.V.Service.unchanged g.V.Service.joined Store c.args.self.now.still_to_end c.round.new.self.still_to_end (c.args.sockets.now, c.args.service.now) c.round.new.sockets c.say_farewell.new.sockets c.round.new.service
    (goes_then (Acts g.N.Sockets.follows g.V.Service.follows g.V.Service.owed_at) (acts_then g.N.Sockets.follows g.V.Service.follows g.V.Service.owed_at g.N.Sockets.joined) true c.args.self.now.still_to_end c.prepare.new.self.still_to_end c.round.new.self.still_to_end (c.args.sockets.now, c.args.service.now)
    (c.prepare.new.sockets, c.rounds.service) (c.round.new.sockets, c.round.new.service)
    (goes_quiet g.N.Sockets.follows g.V.Service.follows g.V.Service.owed_at g.N.Sockets.joined c.args.self.now.still_to_end c.rounds.self.still_to_end c.prepare.new.self.still_to_end (c.args.sockets.now, c.args.service.now) c.wait.new.sockets c.prepare.new.sockets c.rounds.service
    (goes_quiet g.N.Sockets.follows g.V.Service.follows g.V.Service.owed_at g.N.Sockets.joined c.args.self.now.still_to_end c.rounds.self.still_to_end c.rounds.self.still_to_end (c.args.sockets.now, c.args.service.now) c.rounds.sockets c.wait.new.sockets c.rounds.service
    (c.rounds.invariant.goes) refl
    (quiet_one g.N.Sockets.follows (waited (c.wait.ensures.heard (search rules)).0 _) refl c.rounds.sockets c.wait.new.sockets (c.wait.ensures.heard (search rules)).2)) c.prepare.ensures.limit (quiet_ready g.N.Sockets.follows _ _ c.wait.new.sockets c.prepare.new.sockets c.prepare.ensures.heard))
    (subst (λ (s : Bool). Goes (Acts g.N.Sockets.follows g.V.Service.follows g.V.Service.owed_at) s c.prepare.new.self.still_to_end c.round.new.self.still_to_end (c.prepare.new.sockets, c.rounds.service)
    (c.round.new.sockets, c.round.new.service)) is c.round.ensures.after)) c.say_farewell.ensures.says

pub returns-then-is_err-clause-laps : goal.returns-then-is_err-clause-laps
returns-then-is_err-clause-laps g c =
    let is : is_err c.round.result ≡ true = search rules in
    record {
      count = c.rounds.counter;
      last = c.rounds.self;
      end = (c.rounds.sockets, c.rounds.service, c.rounds.watch);
      laps = c.rounds.invariant.laps;
      ended = record {
        ready = c.prepare.new.self;
        taken = c.prepare.new.sockets;
        readies = record {
          millis = (c.wait.ensures.heard (search rules)).0;
          limit = (c.wait.ensures.heard (search rules)).1;
          heard = c.wait.new.sockets;
          waits = (c.wait.ensures.heard (search rules)).2;
          hears = c.prepare.ensures.heard;
          tries = c.prepare.ensures.tried;
          marks = c.prepare.ensures.marks;
        };
        there = c.has_moved.ensures.there (search rules);
        after = c.round.new.self;
        cut = c.round.new.sockets;
        round = by_err c.round.result is c.round.ensures.cut;
        farewell = c.say_farewell.ensures.sends;
      };
    }

pub rounds-preserved : goal.rounds-preserved
rounds-preserved g c =
    let is : is_err c.round.result ≡ false = search rules in
    record {
      goes = goes_then (Acts g.N.Sockets.follows g.V.Service.follows g.V.Service.owed_at) (acts_then g.N.Sockets.follows g.V.Service.follows g.V.Service.owed_at g.N.Sockets.joined) false c.args.self.now.still_to_end c.prepare.new.self.still_to_end c.round.new.self.still_to_end (c.args.sockets.now, c.args.service.now)
          (c.prepare.new.sockets, c.rounds.service) (c.round.new.sockets, c.round.new.service)
          (goes_quiet g.N.Sockets.follows g.V.Service.follows g.V.Service.owed_at g.N.Sockets.joined c.args.self.now.still_to_end c.rounds.self.still_to_end c.prepare.new.self.still_to_end (c.args.sockets.now, c.args.service.now) c.wait.new.sockets c.prepare.new.sockets c.rounds.service
          (goes_quiet g.N.Sockets.follows g.V.Service.follows g.V.Service.owed_at g.N.Sockets.joined c.args.self.now.still_to_end c.rounds.self.still_to_end c.rounds.self.still_to_end (c.args.sockets.now, c.args.service.now) c.rounds.sockets c.wait.new.sockets c.rounds.service
          (c.rounds.invariant.goes) refl
          (quiet_one g.N.Sockets.follows (waited (c.wait.ensures.heard (search rules)).0 _) refl c.rounds.sockets c.wait.new.sockets (c.wait.ensures.heard (search rules)).2)) c.prepare.ensures.limit (quiet_ready g.N.Sockets.follows _ _ c.wait.new.sockets c.prepare.new.sockets c.prepare.ensures.heard))
          (subst (λ (s : Bool). Goes (Acts g.N.Sockets.follows g.V.Service.follows g.V.Service.owed_at) s c.prepare.new.self.still_to_end c.round.new.self.still_to_end (c.prepare.new.sockets, c.rounds.service)
          (c.round.new.sockets, c.round.new.service)) is c.round.ensures.after);
      asked = asked_more g.N.Sockets.follows g.V.Service.follows g.V.Service.owed_at g.N.Sockets.joined c.rounds.counter (waited (c.wait.ensures.heard (search rules)).0 _) c.prepare.new.self.still_to_end c.round.new.self.still_to_end (is_err c.round.result)
          c.args.sockets.now c.rounds.sockets c.wait.new.sockets c.prepare.new.sockets c.round.new.sockets c.rounds.service c.round.new.service
          c.rounds.invariant.asked (c.wait.ensures.heard (search rules)).2 (quiet_ready g.N.Sockets.follows _ _ c.wait.new.sockets c.prepare.new.sockets c.prepare.ensures.heard) c.round.ensures.after;
      laps = rw add-one (
        c.rounds.self,
        (c.rounds.sockets, c.rounds.service, c.rounds.watch),
        c.rounds.invariant.laps,
        record {
          ready = c.prepare.new.self;
          taken = c.prepare.new.sockets;
          readies = record {
            millis = (c.wait.ensures.heard (search rules)).0;
            limit = (c.wait.ensures.heard (search rules)).1;
            heard = c.wait.new.sockets;
            waits = (c.wait.ensures.heard (search rules)).2;
            hears = c.prepare.ensures.heard;
            tries = c.prepare.ensures.tried;
            marks = c.prepare.ensures.marks;
          };
          there = c.has_moved.ensures.there (search rules);
          round = on_ok c.round.result is c.round.ensures.visits;
        },
      );
    }

pub returns-clause-after : goal.returns-clause-after
returns-clause-after g c =
    runs_early g.N.Sockets.follows g.V.Service.follows g.V.Service.owed_at g.N.Sockets.joined g.V.Service.unchanged g.V.Service.joined Sockets c.args.self.now.still_to_end c.rounds.self.still_to_end (c.args.sockets.now, c.args.service.now) (c.rounds.sockets, c.rounds.service) c.rounds.invariant.goes

pub returns-clause-laps : goal.returns-clause-laps
returns-clause-laps g c =
    record {
      count = c.rounds.counter;
      last = c.rounds.self;
      end = (c.rounds.sockets, c.rounds.service, c.rounds.watch);
      laps = c.rounds.invariant.laps;
      ended = (inr (omega arith, refl), refl, refl);
    }

pub returns-clause-cause : goal.returns-clause-cause
returns-clause-cause g c is =
    let asked = c.rounds.invariant.asked in
    let size = asked.size in
    (asked.calls, inr (asked.made, omega (arith, size)))
