use Rattle.std.proofs.Common.{true, ◌≡◌, take}
use Rattle.tb_calls.specs.Call.{State}
use Rattle.tb_script.specs.Runs.{fed, from}
use Rattle.tb_script.proofs.line_buffer.LineBuffer.feed.Given as goal

abbrev pub invariant-loop-byte : goal.invariant-loop-byte
invariant-loop-byte g l =
    let k = g.K.Keep in
    let before = take l.byte-index l.chunk in
    record {
      line : (s : State) → l.self.line.items ≡ (fed (from s l.fn.self.line.items l.fn.output.items) before).line;
      told : k.is_honest l.desk ≡ true → (s : State) → k.holds l.fn.desk s → l.output.items ≡ (fed (from s l.fn.self.line.items l.fn.output.items) before).told;
      held : k.is_honest l.desk ≡ true → (s : State) → k.holds l.fn.desk s → k.holds l.desk (fed (from s l.fn.self.line.items l.fn.output.items) before).state;
      honest : k.is_honest l.desk ≡ true → k.is_honest l.fn.desk ≡ true;
      failed : k.has_failed l.desk ≡ k.has_failed l.fn.desk;
    }
