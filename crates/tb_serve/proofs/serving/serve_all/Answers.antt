use Rattle.std.proofs.Common.{◌≡◌, ◌+◌, drop, IfSome, Some, arith, refl, sym, ap, ◌∙◌, subst}
use Rattle.tb_serve.proofs.Connection.{has_room, run_closed, run_ends, run_more, run_none, taken_more, taken_none, taken_one, told_on}
use Rattle.tb_serve.proofs.Faults.{store_failed}
use Rattle.tb_serve.specs.Serving.{ended_by, ended_well, exchange_fault, reads_one}
use Rattle.tb_serve.specs.declared.serving.ServeEnd.{ServeEnd}
use Rattle.tb_serve.proofs.serving.serve_all.Goals as goal

pub messages-init : goal.messages-init
messages-init g c = record {
  counted = c.requires.first;
  goes_on = λ _. omega arith;
  taken = taken_none (g.C.Clock.answers c.args.clock.now) 0 refl;
  honest = λ y. y;
  runs = λ y s held only. run_none c.args.paths.now.site s c.args.reader.now.bytes (g.C.Clock.answers c.args.clock.now) (g.W.Write.contents c.args.writer.now) _ _ c.args.reader.now.messages c.args.reader.now.is_closing
      c.requires.first c.requires.goes_on held only;
}

pub messages-preserved : goal.messages-preserved
messages-preserved g c =
    let exchange = c.serve_message-exchange.result in
    let on = sym c.goes_on.ensures ∙ c.if-not-goes_on.false in
    let told = (told_on exchange.turn exchange.is_whole on).0 in
    let read = ap reads_one told in
    let clock = c.serve_message-exchange.ensures.clock in
    let unclosed = sym c.closing.ensures ∙ c.messages-test.true in
    let count = c.serve_message-exchange.ensures.counted told ∙ ap (λ k. k + 1) c.messages.invariant.counted in
    record {
      counted = count;
      taken = taken_more (g.C.Clock.answers c.args.clock.now) (g.C.Clock.answers c.messages.clock) (g.C.Clock.answers c.serve_message-exchange.new.clock)
          c.messages.answered 1 _ refl c.messages.invariant.taken (subst (λ k. IfSome (g.C.Clock.answers c.messages.clock) (λ all. g.C.Clock.answers c.serve_message-exchange.new.clock ≡ Some (drop k all))) read clock);
      goes_on = λ goes. has_room _ _ (λ full. c.serve_message-exchange.ensures.limit told (omega (arith, count, full))) goes;
      honest = λ y. c.messages.invariant.honest (c.serve_message-exchange.ensures.honest y);
      runs = λ y s held only. run_more c.args.paths.now.site s c.args.reader.now.bytes (g.C.Clock.answers c.args.clock.now) c.messages.reader.bytes (g.C.Clock.answers c.messages.clock) (g.C.Clock.answers c.serve_message-exchange.new.clock)
          (g.W.Write.contents c.args.writer.now) (g.W.Write.contents c.messages.writer) (g.W.Write.contents c.serve_message-exchange.new.writer)
          (g.K.Keep.holds c.messages.desk) (g.K.Keep.after_stop c.messages.desk) (g.K.Keep.holds c.serve_message-exchange.new.desk) (g.K.Keep.after_stop c.serve_message-exchange.new.desk)
          c.messages.reader.messages c.serve_message-exchange.new.reader.messages c.messages.reader.is_closing c.serve_message-exchange.new.reader.is_closing exchange c.serve_message-exchange.new.reader.bytes
          (c.messages.invariant.runs (c.serve_message-exchange.ensures.honest y) s held only) (c.serve_message-exchange.ensures.exchanges y) unclosed on
          (taken_one (g.C.Clock.answers c.messages.clock) (g.C.Clock.answers c.serve_message-exchange.new.clock) _ read clock)
          (c.serve_message-exchange.ensures.counted told);
    }

pub returns-then-not-goes_on-clause-served : goal.returns-then-not-goes_on-clause-served
returns-then-not-goes_on-clause-served g c y s held only =
    let exchange = c.serve_message-exchange.result in
    let cut = sym c.goes_on.ensures ∙ c.if-not-goes_on.true in
    let unclosed = sym c.closing.ensures ∙ c.messages-test.true in
    let counts = c.ends.ensures ∙ ap (λ k. ended_by k exchange) (sym c.messages.invariant.counted) in
    run_ends c.args.paths.now.site s c.args.reader.now.bytes (g.C.Clock.answers c.args.clock.now) c.messages.reader.bytes (g.C.Clock.answers c.messages.clock)
    (g.W.Write.contents c.args.writer.now) (g.W.Write.contents c.messages.writer) (g.W.Write.contents c.serve_message-exchange.new.writer)
    (g.K.Keep.holds c.messages.desk) (g.K.Keep.after_stop c.messages.desk) (g.K.Keep.holds c.serve_message-exchange.new.desk) (g.K.Keep.after_stop c.serve_message-exchange.new.desk)
    c.messages.reader.messages c.messages.reader.is_closing c.serve_message-exchange.new.reader.is_closing exchange c.serve_message-exchange.new.reader.bytes c.ends.result
    (c.messages.invariant.runs (c.serve_message-exchange.ensures.honest y) s held only) (c.serve_message-exchange.ensures.exchanges y) unclosed cut counts

pub returns-clause-served : goal.returns-clause-served
returns-clause-served g c y s held only =
    let closed = sym c.closing.ensures ∙ c.messages-test.false in
    run_closed c.args.paths.now.site s c.args.reader.now.bytes (g.C.Clock.answers c.args.clock.now) c.messages.reader.bytes (g.C.Clock.answers c.messages.clock)
    (g.W.Write.contents c.args.writer.now) (g.W.Write.contents c.messages.writer)
    (g.K.Keep.holds c.messages.desk) (g.K.Keep.after_stop c.messages.desk)
    c.messages.reader.messages c.messages.reader.is_closing _
    (c.messages.invariant.runs y s held only) closed (ap ended_well (sym c.messages.invariant.counted))

pub returns-then-not-goes_on-clause-failed : goal.returns-then-not-goes_on-clause-failed
returns-then-not-goes_on-clause-failed g c is =
    let exchange = c.serve_message-exchange.result in
    let told : c.ends.result.fault ≡ exchange_fault exchange = ap (λ (end : ServeEnd). end.fault) c.ends.ensures in
    c.serve_message-exchange.ensures.failed (store_failed exchange.turn exchange.is_whole (sym told ∙ is))

pub returns-then-not-goes_on-clause-clock : goal.returns-then-not-goes_on-clause-clock
returns-then-not-goes_on-clause-clock g c =
    let exchange = c.serve_message-exchange.result in
    let count = ap (λ (end : ServeEnd). end.messages) c.ends.ensures in
    taken_more (g.C.Clock.answers c.args.clock.now) (g.C.Clock.answers c.messages.clock) (g.C.Clock.answers c.serve_message-exchange.new.clock)
    c.messages.answered (reads_one exchange.turn) _ count c.messages.invariant.taken c.serve_message-exchange.ensures.clock
