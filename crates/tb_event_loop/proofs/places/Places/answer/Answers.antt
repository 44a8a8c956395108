use Rattle.std.proofs.Common.{◌∙◌, ◌-◌, List, ℕ, ap, refl, inr, subst, is_ok}
use Rattle.tb_event_loop.specs.Answering.{IsHeadOf}
use Rattle.tb_event_loop.specs.declared.places.Places.{Places}
use Rattle.tb_event_loop.proofs.Noting.{counts_after, counts_before, counts_message, counts_none}
use Rattle.tb_event_loop.proofs.Sparing.{spares_entered, spares_looked, spares_message, spares_stage, spares_then}
use Rattle.tb_event_loop.proofs.places.Places.answer.Goals as goal

pub returns-then-not-may_answer-clause-counts : goal.returns-then-not-may_answer-clause-counts
returns-then-not-may_answer-clause-counts g c = counts_none c.args.place c.args.self.now c.args.self.now refl refl

-- nothing is done while the message waits
pub returns-then-not-hold_back-clause-after : goal.returns-then-not-hold_back-clause-after
returns-then-not-hold_back-clause-after g c = inr (refl, refl)

pub returns-then-not-hold_back-clause-spares : goal.returns-then-not-hold_back-clause-spares
returns-then-not-hold_back-clause-spares g c =
    spares_then c.args.place c.args.self.now c.hold_back.new.self c.await_turn.new.self (spares_looked c.args.place c.args.self.now c.hold_back.new.self _ c.hold_back.ensures.asked c.hold_back.ensures.others)
    (spares_stage c.args.place c.hold_back.new.self c.await_turn.new.self _ c.await_turn.ensures)

pub returns-then-not-hold_back-clause-counts : goal.returns-then-not-hold_back-clause-counts
returns-then-not-hold_back-clause-counts g c =
    let same = c.await_turn.ensures.1 in
    let looked = c.hold_back.ensures.others in
    counts_none c.args.place c.args.self.now c.await_turn.new.self (ap (λ (p : Places). p.holds.items) same ∙ ap (λ (p : Places). p.holds.items) looked)
    (ap (λ (p : Places). p.is_tight) same ∙ ap (λ (p : Places). p.is_tight) looked)

pub returns-then-is_err-clause-spares : goal.returns-then-is_err-clause-spares
returns-then-is_err-clause-spares g c = spares_looked c.args.place c.args.self.now c.hold_back.new.self _ c.hold_back.ensures.asked c.hold_back.ensures.others

pub returns-then-is_err-clause-counts : goal.returns-then-is_err-clause-counts
returns-then-is_err-clause-counts g c =
    let looked = c.hold_back.ensures.others in
    counts_none c.args.place c.args.self.now c.hold_back.new.self (ap (λ (p : Places). p.holds.items) looked) (ap (λ (p : Places). p.is_tight) looked)

pub returns-clause-answers : goal.returns-clause-answers
returns-clause-answers g c may due = record {
  looked = c.hold_back.new.self;
  looks = c.hold_back.ensures.others;
  counted = c.hold_back.ensures.counted;
  asked = c.hold_back.ensures.asked;
  head = c.begin.new.self.head.items;
  is_head = subst (λ (held : List ℕ). IsHeadOf held c.begin.new.self.head.items) c.held.ensures c.begin.ensures.head;
  own = c.written-after.result.own - c.written-before.result.own;
  swept = c.written-after.result.swept - c.written-before.result.swept;
  kept = is_ok c.end_message.result;
  ended = c.end_message.new.self;
  ends = c.end_message.ensures.ends;
  enters = c.enter.ensures;
}

pub returns-clause-spares : goal.returns-clause-spares
returns-clause-spares g c =
    spares_then c.args.place c.args.self.now c.hold_back.new.self c.enter.new.self (spares_looked c.args.place c.args.self.now c.hold_back.new.self _ c.hold_back.ensures.asked c.hold_back.ensures.others)
    (spares_then c.args.place c.hold_back.new.self c.end_message.new.self c.enter.new.self (spares_message (g.V.Service.gives_file c.happen.new.self) c.begin.new.self.head.items (g.V.Service.owed_at c.happen.new.self c.args.place) (c.written-after.result.own - c.written-before.result.own)
    (c.written-after.result.swept - c.written-before.result.swept) c.args.now (is_ok c.end_message.result) c.hold_back.new.self c.end_message.new.self c.args.place c.end_message.ensures.ends)
    (spares_entered c.args.place c.args.now c.end_message.new.self c.enter.new.self _ _ _ c.enter.ensures))

pub returns-clause-counts : goal.returns-clause-counts
returns-clause-counts g c =
    let looked = c.hold_back.ensures.others in
    let enters = c.enter.ensures.2.1 in
    counts_before c.args.place c.args.self.now c.end_message.new.self c.enter.new.self
    (counts_after c.args.place c.args.self.now c.hold_back.new.self c.end_message.new.self (ap (λ (p : Places). p.holds.items) looked) (ap (λ (p : Places). p.is_tight) looked)
    (counts_message (g.V.Service.gives_file c.happen.new.self) c.begin.new.self.head.items (g.V.Service.owed_at c.happen.new.self c.args.place) (c.written-after.result.own - c.written-before.result.own)
    (c.written-after.result.swept - c.written-before.result.swept) c.args.now (is_ok c.end_message.result) c.hold_back.new.self c.end_message.new.self c.args.place c.end_message.ensures.ends))
    (ap (λ (p : Places). p.holds.items) enters) (ap (λ (p : Places). p.is_tight) enters)
