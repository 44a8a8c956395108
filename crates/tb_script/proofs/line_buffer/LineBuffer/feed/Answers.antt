use Rattle.std.proofs.Common.{true, ◌≡◌, ◌∙◌, ◌<◌, ◌+◌, length, take, inl, inr, ap, subst, arith}
use Rattle.std.proofs.lemmas.List.{take_all}
use Rattle.tb_calls.specs.Call.{State}
use Rattle.tb_script.specs.Runs.{Progress, fed, from}
use Rattle.tb_script.proofs.Feeding.{next_byte, next_line}
use Rattle.tb_script.proofs.line_buffer.LineBuffer.feed.Goals as goal

pub returns-in_err-take_byte-clause-held : goal.returns-in_err-take_byte-clause-held
returns-in_err-take_byte-clause-held g c y s h =
    let x = c.in_err-take_byte.ensures.honest y in
    let before = c.loop-byte.invariant in
    let line = c.args.self.now.line.items in
    let told = c.args.output.now.items in
    let chunk = c.args.chunk.now in
    let i = c.loop-byte.byte-index in
    let within : i < length chunk = omega arith in
    elim (c.in_err-take_byte.ensures.held y (fed (from s line told) (take i chunk)).state (before.held x s h)) [
      | inl same ↦ (i, same)
      | inr after ↦ (
        i + 1,
        subst (g.K.Keep.holds c.take_byte.new.desk)
            (ap (λ (p : Progress). p.state) (next_byte s line told chunk i 0 c.loop-byte.self.line.items c.loop-byte.output.items within (before.line s) (before.told x s h))) after,
      )
    ]

pub loop-byte-preserved : goal.loop-byte-preserved
loop-byte-preserved g c =
    let before = c.loop-byte.invariant in
    let e = c.in_ok-take_byte.ensures in
    let line = c.args.self.now.line.items in
    let told = c.args.output.now.items in
    let chunk = c.args.chunk.now in
    let i = c.loop-byte.byte-index in
    let within : i < length chunk = omega arith in
    let next = λ (y : g.K.Keep.is_honest c.take_byte.new.desk ≡ true) (s : State) (h : g.K.Keep.holds c.args.desk.now s). next_byte s line told chunk i 0 c.loop-byte.self.line.items c.loop-byte.output.items within (before.line s) (before.told (e.honest y) s h) in
    record {
      line = λ s. e.line s ∙ next_line s s line told chunk i 0 c.loop-byte.self.line.items c.loop-byte.output.items within (before.line s);
      told = λ y s h. e.told y (fed (from s line told) (take i chunk)).state (before.held (e.honest y) s h) ∙ ap (λ (p : Progress). p.told) (next y s h);
      held = λ y s h. subst (g.K.Keep.holds c.take_byte.new.desk) (ap (λ (p : Progress). p.state) (next y s h)) (e.left y (fed (from s line told) (take i chunk)).state (before.held (e.honest y) s h));
      honest = λ y. before.honest (e.honest y);
      failed = e.failed ∙ before.failed;
    }

pub returns-clause-line : goal.returns-clause-line
returns-clause-line g c s =
    c.loop-byte.invariant.line s
    ∙ ap (λ bytes. (fed (from s c.args.self.now.line.items c.args.output.now.items) bytes).line) (take_all c.loop-byte.byte-index c.args.chunk.now (omega arith))
