use Rattle.std.proofs.Common.{◌≡◌, ◌++◌, take}
use Rattle.tb_event_loop.specs.Logging.{written_out}
use Rattle.tb_event_loop.proofs.logging.push_bytes.Given as goal

-- the bytes so far
abbrev pub invariant-loop-byte : goal.invariant-loop-byte
invariant-loop-byte l = l.line.items ≡ l.fn.line.items ++ written_out (take l.byte-index l.text)
