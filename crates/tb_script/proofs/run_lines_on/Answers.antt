use Rattle.std.proofs.Common.{◌∙◌, ◌≤◌, ◌+◌, ◌-◌, ◌^◌, take, arith}
use Rattle.std.proofs.Math.Nat.{le-min}
use Rattle.std.proofs.lemmas.Result.{on_err_weaker, on_ok_weaker}
use Rattle.tb_script.proofs.Runs.{feeds_of, finishes_of, held_in, known_left_all, known_read_on, known_stopped, known_stopped_after, known_stopped_at_end, known_stopped_in, known_stopped_last, known_written_all, none_eaten, on_err_since}
use Rattle.tb_script.proofs.run_lines_on.Goals as goal

pub returns-clause-front : goal.returns-clause-front
returns-clause-front g c y s held =
    known_stopped (g.K.Keep.holds c.args.desk.now) (g.K.Keep.holds c.reads.desk) c.args.reader.now.left (g.W.Write.contents c.args.writer.now) (g.W.Write.contents c.reads.writer) c.reads.reader.left
    c.reads.buffer.line.items (c.reads.invariant.under_way y) s held

pub returns-in_err-count-clause-front : goal.returns-in_err-count-clause-front
returns-in_err-count-clause-front g c y s held = on_err_since _
    (known_stopped (g.K.Keep.holds c.args.desk.now) (g.K.Keep.holds c.reads.desk) c.args.reader.now.left (g.W.Write.contents c.args.writer.now) (g.W.Write.contents c.reads.writer) c.reads.reader.left
    c.reads.buffer.line.items (c.reads.invariant.under_way y) s held)

pub returns-in_err-end_line-clause-front : goal.returns-in_err-end_line-clause-front
returns-in_err-end_line-clause-front g c y s held = on_err_since _
    (known_stopped_at_end (g.K.Keep.holds c.args.desk.now) (g.K.Keep.holds c.reads.desk) (g.K.Keep.holds c.end_line.new.desk) c.args.reader.now.left (g.W.Write.contents c.args.writer.now) (g.W.Write.contents c.reads.writer) c.reads.reader.left c.read.new.self.left
    c.reads.buffer.line.items (c.reads.invariant.under_way (c.in_err-end_line.ensures.honest y)) (none_eaten _ _ c.read.new.buf c.in_ok-count.count c.if-count-eq0.true c.in_ok-count.ensures.bytes.0) (c.in_ok-count.ensures.bytes.1 c.if-count-eq0.true (omega arith)) (c.in_err-end_line.ensures.held y) s held)

pub returns-in_err-feed-clause-front : goal.returns-in_err-feed-clause-front
returns-in_err-feed-clause-front g c y s held = on_err_since _
    (known_stopped_in (g.K.Keep.holds c.args.desk.now) (g.K.Keep.holds c.reads.desk) (g.K.Keep.holds c.feed.new.desk) c.args.reader.now.left (g.W.Write.contents c.args.writer.now) (g.W.Write.contents c.reads.writer) c.reads.reader.left c.read.new.self.left
    c.reads.buffer.line.items (take c.in_ok-count.count c.read.new.buf) (c.reads.invariant.under_way (c.in_err-feed.ensures.honest y)) c.in_ok-count.ensures.bytes.0
    (held_in (g.K.Keep.holds c.reads.desk) (g.K.Keep.holds c.feed.new.desk) c.reads.buffer.line.items (take c.in_ok-count.count c.read.new.buf) c.new-output.result.items c.new-output.ensures.items (c.in_err-feed.ensures.held y)) s held)

pub returns-then-count-eq0-clause-answers : goal.returns-then-count-eq0-clause-answers
returns-then-count-eq0-clause-answers g c y s held =
    on_ok_weaker c.answer.result (λ wrote.
    known_written_all (g.K.Keep.holds c.args.desk.now) (g.K.Keep.holds c.reads.desk) (g.K.Keep.holds c.end_line.new.desk) c.args.reader.now.left (g.W.Write.contents c.args.writer.now) (g.W.Write.contents c.reads.writer) (g.W.Write.contents c.answer.new.writer) c.reads.reader.left c.read.new.self.left
    c.reads.buffer.line.items c.as_slice.result.now (c.reads.invariant.under_way (c.in_ok-end_line.ensures.honest y)) (none_eaten _ _ c.read.new.buf c.in_ok-count.count c.if-count-eq0.true c.in_ok-count.ensures.bytes.0) (c.in_ok-count.ensures.bytes.1 c.if-count-eq0.true (omega arith)) (finishes_of (g.K.Keep.holds c.reads.desk) (g.K.Keep.holds c.end_line.new.desk) c.reads.buffer.line.items c.as_slice.result.now c.new-output.result.items c.end_line.new.output.items
    c.new-output.ensures.items c.as_slice.ensures.value (c.in_ok-end_line.ensures.told y) (c.in_ok-end_line.ensures.left y)) wrote s held)
    c.answer.ensures.whole

pub returns-then-count-eq0-clause-left : goal.returns-then-count-eq0-clause-left
returns-then-count-eq0-clause-left g c y s held =
    on_ok_weaker c.answer.result (λ wrote.
    known_left_all (g.K.Keep.holds c.args.desk.now) (g.K.Keep.holds c.reads.desk) (g.K.Keep.holds c.end_line.new.desk) c.args.reader.now.left (g.W.Write.contents c.args.writer.now) (g.W.Write.contents c.reads.writer) c.reads.reader.left c.read.new.self.left
    c.reads.buffer.line.items c.as_slice.result.now (c.reads.invariant.under_way (c.in_ok-end_line.ensures.honest y)) (none_eaten _ _ c.read.new.buf c.in_ok-count.count c.if-count-eq0.true c.in_ok-count.ensures.bytes.0) (c.in_ok-count.ensures.bytes.1 c.if-count-eq0.true (omega arith)) (finishes_of (g.K.Keep.holds c.reads.desk) (g.K.Keep.holds c.end_line.new.desk) c.reads.buffer.line.items c.as_slice.result.now c.new-output.result.items c.end_line.new.output.items
    c.new-output.ensures.items c.as_slice.ensures.value (c.in_ok-end_line.ensures.told y) (c.in_ok-end_line.ensures.left y)) s held)
    c.answer.ensures.whole

pub returns-then-count-eq0-clause-front : goal.returns-then-count-eq0-clause-front
returns-then-count-eq0-clause-front g c y s held =
    on_err_weaker c.answer.result (λ wrote.
    known_stopped_last (g.K.Keep.holds c.args.desk.now) (g.K.Keep.holds c.reads.desk) (g.K.Keep.holds c.end_line.new.desk) c.args.reader.now.left (g.W.Write.contents c.args.writer.now) (g.W.Write.contents c.reads.writer) (g.W.Write.contents c.answer.new.writer) c.reads.reader.left c.read.new.self.left
    c.reads.buffer.line.items c.as_slice.result.now (c.reads.invariant.under_way (c.in_ok-end_line.ensures.honest y)) (none_eaten _ _ c.read.new.buf c.in_ok-count.count c.if-count-eq0.true c.in_ok-count.ensures.bytes.0) (c.in_ok-count.ensures.bytes.1 c.if-count-eq0.true (omega arith)) (finishes_of (g.K.Keep.holds c.reads.desk) (g.K.Keep.holds c.end_line.new.desk) c.reads.buffer.line.items c.as_slice.result.now c.new-output.result.items c.end_line.new.output.items
    c.new-output.ensures.items c.as_slice.ensures.value (c.in_ok-end_line.ensures.told y) (c.in_ok-end_line.ensures.left y)) wrote s held)
    c.answer.ensures.front

pub returns-in_err-answer-clause-front : goal.returns-in_err-answer-clause-front
returns-in_err-answer-clause-front g c y s held = on_err_since _
    (known_stopped_after (g.K.Keep.holds c.args.desk.now) (g.K.Keep.holds c.reads.desk) (g.K.Keep.holds c.feed.new.desk) c.args.reader.now.left (g.W.Write.contents c.args.writer.now) (g.W.Write.contents c.reads.writer) (g.W.Write.contents c.answer-in-reads.new.writer) c.reads.reader.left c.read.new.self.left
    c.reads.buffer.line.items c.feed.new.self.line.items (take c.in_ok-count.count c.read.new.buf) c.as_slice-in-reads.result.now (c.reads.invariant.under_way (c.in_ok-feed.ensures.honest y)) c.in_ok-count.ensures.bytes.0 (feeds_of (g.K.Keep.holds c.reads.desk) (g.K.Keep.holds c.feed.new.desk) c.reads.buffer.line.items c.feed.new.self.line.items (take c.in_ok-count.count c.read.new.buf) c.as_slice-in-reads.result.now c.new-output.result.items c.feed.new.output.items
    c.new-output.ensures.items c.as_slice-in-reads.ensures.value c.in_ok-feed.ensures.line (c.in_ok-feed.ensures.told y) (c.in_ok-feed.ensures.left y)) c.in_err-answer.ensures.front s held)

pub reads-preserved : goal.reads-preserved
reads-preserved g c = record {
  under_way = λ y. rw c.in_ok-answer.ensures.reads.0
      (known_read_on (g.K.Keep.holds c.args.desk.now) (g.K.Keep.holds c.reads.desk) (g.K.Keep.holds c.feed.new.desk) c.args.reader.now.left (g.W.Write.contents c.args.writer.now) (g.W.Write.contents c.reads.writer)
      (g.W.Write.contents c.answer-in-reads.new.writer) c.reads.reader.left c.read.new.self.left
      c.reads.buffer.line.items c.feed.new.self.line.items (take c.in_ok-count.count c.read.new.buf) c.as_slice-in-reads.result.now (c.reads.invariant.under_way (c.in_ok-feed.ensures.honest y)) c.in_ok-count.ensures.bytes.0
      (feeds_of (g.K.Keep.holds c.reads.desk) (g.K.Keep.holds c.feed.new.desk) c.reads.buffer.line.items c.feed.new.self.line.items (take c.in_ok-count.count c.read.new.buf) c.as_slice-in-reads.result.now c.new-output.result.items c.feed.new.output.items
      c.new-output.ensures.items c.as_slice-in-reads.ensures.value c.in_ok-feed.ensures.line (c.in_ok-feed.ensures.told y) (c.in_ok-feed.ensures.left y)) c.in_ok-answer.ensures.whole);
  honest = λ y. c.reads.invariant.honest (c.in_ok-feed.ensures.honest y);
  counted =
      let more : c.reads._taken + 1 ≤ c.reads.reader.reads + 1 = omega (arith, c.reads.invariant.counted) in
      let most : c.reads._taken + 1 ≤ 2 ^ 64 - 1 = omega (arith, c.reads-test.true) in
      rw (c.in_ok-answer.ensures.reads.1, c.in_ok-count.ensures.counted) (le-min more most);
  failed = c.in_ok-feed.ensures.failed ∙ c.reads.invariant.failed;
  heard = c.in_ok-answer.ensures.reads.2 ∙ c.in_ok-count.ensures.failed ∙ c.reads.invariant.heard;
  unwritten = c.in_ok-answer.ensures.failed ∙ c.in_ok-count.ensures.unwritten ∙ c.reads.invariant.unwritten;
}
