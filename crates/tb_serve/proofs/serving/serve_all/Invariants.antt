use Rattle.std.proofs.Common.{◌≡◌, ◌<◌, ◌-◌, false, true, drop, IfSome, Some}
use Rattle.tb_calls.specs.Call.{State}
use Rattle.tb_calls.specs.Leaving.{Only}
use Rattle.tb_serve.proofs.Connection.{Runs}
use Rattle.tb_serve.proofs.serving.serve_all.Given as goal

-- so far every message was told, and its answer written whole
abbrev pub invariant-messages : goal.invariant-messages
invariant-messages g l = record {
  counted : l.reader.messages ≡ l.answered;
  goes_on : l.reader.is_closing ≡ false → l.answered < 1000;
  taken : IfSome (g.C.Clock.answers l.fn.clock) (λ all. g.C.Clock.answers l.clock ≡ Some (drop l.answered all));
  honest : g.K.Keep.is_honest l.desk ≡ true → g.K.Keep.is_honest l.fn.desk ≡ true;
  runs : g.K.Keep.is_honest l.desk ≡ true → (s : State) → g.K.Keep.holds l.fn.desk s → Only s (g.K.Keep.after_stop l.fn.desk)
      → Runs l.paths.site s l.fn.reader.bytes (g.C.Clock.answers l.fn.clock) l.reader.bytes (g.C.Clock.answers l.clock)
      (g.W.Write.contents l.fn.writer) (g.W.Write.contents l.writer) (g.K.Keep.holds l.desk) (g.K.Keep.after_stop l.desk)
      l.reader.messages l.reader.is_closing;
}

abbrev pub decreases-messages : goal.decreases-messages
decreases-messages g l = 1000 - l.answered
