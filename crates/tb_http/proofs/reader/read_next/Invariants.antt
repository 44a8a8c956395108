use Rattle.std.specs.Io.KnownBytes.{Keeps, prepend_known}
use Rattle.std.proofs.Common.{◌≡◌, ◌+◌, ◌-◌, length, false}
use Rattle.tb_http.specs.Framing.{body_limit}
use Rattle.tb_http.specs.Wire.{head_limit}
use Rattle.tb_http.proofs.reader.read_next.Given as goal

abbrev pub invariant-loop-message : goal.invariant-loop-message
invariant-loop-message g l = record {
  kept : Keeps (prepend_known l.fn.inbox.bytes (g.R.Read.remaining l.fn.source)) (prepend_known l.inbox.bytes (g.R.Read.remaining l.source));
  goes_on : l.inbox.is_closing ≡ false;
  counted : l.inbox.messages ≡ l.fn.inbox.messages;
}

abbrev pub decreases-loop-message : goal.decreases-loop-message
decreases-loop-message g l = head_limit + body_limit + 1 - length l.inbox.bytes
