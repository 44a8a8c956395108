use Rattle.std.proofs.Common.{◌≡◌, drop}
use Rattle.tb_todotxt.specs.Line.{is_free_of}
use Rattle.tb_client.proofs.line.is_one_line.Given as goal

abbrev pub invariant-loop-byte : goal.invariant-loop-byte
invariant-loop-byte l = is_free_of 10 (drop l.byte-index l.text) ≡ is_free_of 10 l.text
