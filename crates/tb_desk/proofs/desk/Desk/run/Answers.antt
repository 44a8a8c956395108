use Rattle.std.proofs.Common.{◌<◌, ◌+◌, Err, length, take, refl, true≢false, sym, ap, ◌∙◌, subst, arith}
use Rattle.tb_calls.specs.Call.{State}
use Rattle.tb_desk.proofs.Runs.{told_more, after_all, after_all-more}
use Rattle.tb_desk.proofs.Moves.{stands_all, stands_more, stands_counted, still_then, unfailed, unless_store}
use Rattle.tb_desk.proofs.desk.Desk.run.Goals as goal

pub returns-in-Err-clause-stands : goal.returns-in-Err-clause-stands
returns-in-Err-clause-stands g c s held only =
    let i = c.loop-call.invariant in
    let calls = c.args.calls.now in
    let here = after_all s (take c.loop-call.call-index calls) in
    let within : c.loop-call.call-index < length calls = omega arith in
    let stood = stands_more s here _ _ calls c.loop-call.call-index c.call-item.result within c.call-item.is refl (c.in-Err.ensures.stands here (i.held s held) (i.only s held only)) in
    stands_counted s _ _ calls _ c.loop-call.call-index (ap length (c.from_vec.ensures ∙ c.in-Err.ensures.err) ∙ i.count) stood

pub loop-call-preserved : goal.loop-call-preserved
loop-call-preserved g c =
    let i = c.loop-call.invariant in
    let e = c.in_default.ensures in
    let calls = c.args.calls.now in
    let n = c.loop-call.call-index in
    let within : c.loop-call.call-index < length calls = omega arith in
    let next = λ (s : State). after_all-more s (after_all s (take n calls)) calls n c.call-item.result within c.call-item.is refl in
    let held = λ (s : State) (h : g.K.Keep.holds c.args.self.now s). subst (g.K.Keep.holds c.run_one.new.self) (next s) (e.left (after_all s (take n calls)) (i.held s h)) in
    record {
      count = e.count ∙ ap (λ m. m + 1) i.count;
      told = λ b s h. told_more s (after_all s (take n calls)) calls n c.call-item.result _ _ within c.call-item.is refl (i.told (e.honest b) s h) (e.ok b (after_all s (take n calls)) (i.held s h));
      held = held;
      honest = λ b. i.honest (e.honest b);
      only = λ s h o. g.met.K.Keep.alone _ _ (held s h) e.fine;
      closed = λ f. absurd (true≢false (sym (e.closed (i.failing ∙ f))));
      failing = e.fine ∙ sym (unfailed (g.K.Keep.has_failed c.loop-call.self) (λ f. true≢false (sym (e.closed f)))) ∙ i.failing;
      still = λ f. absurd (true≢false (sym (e.closed (i.failing ∙ f))));
      stops = λ f. absurd (true≢false (sym (e.closed (i.failing ∙ f))));
    }

pub returns-clause-stands : goal.returns-clause-stands
returns-clause-stands g c s held only =
    let i = c.loop-call.invariant in
    let calls = c.args.calls.now in
    stands_counted s _ _ calls _ c.loop-call.call-index (ap length c.from_vec-2.ensures ∙ i.count) (stands_all s _ _ calls c.loop-call.call-index (i.held s held) (i.only s held only))

pub returns-in-Err-clause-still : goal.returns-in-Err-clause-still
returns-in-Err-clause-still g c f =
    let i = c.loop-call.invariant in
    still_then _ _ _ _ _ _ (record { held = i.still f; stops = i.stops f }) (c.in-Err.ensures.still (i.failing ∙ f))

pub returns-in-Err-clause-fine : goal.returns-in-Err-clause-fine
returns-in-Err-clause-fine g c apart = unless_store _ c.in-Err.fault apart (λ memory. c.in-Err.ensures.unchanged (ap Err memory)) ∙ c.loop-call.invariant.failing

pub returns-in-Err-clause-none : goal.returns-in-Err-clause-none
returns-in-Err-clause-none g c f =
    let i = c.loop-call.invariant in
    ap length (c.from_vec.ensures ∙ c.in-Err.ensures.err) ∙ i.count ∙ i.closed f

pub returns-clause-still : goal.returns-clause-still
returns-clause-still g c f = record { held = c.loop-call.invariant.still f; stops = c.loop-call.invariant.stops f }

pub returns-clause-fine : goal.returns-clause-fine
returns-clause-fine g c apart = c.loop-call.invariant.failing

pub returns-clause-none : goal.returns-clause-none
returns-clause-none g c f =
    let i = c.loop-call.invariant in
    ap length c.from_vec-2.ensures ∙ i.count ∙ i.closed f
