use Rattle.std.proofs.Common.{◌≡◌, drop}
use Rattle.tb_todotxt.specs.Line.{is_blank}
use Rattle.tb_todotxt.proofs.marks.is_blank.Given as goal

abbrev pub invariant-loop-byte : goal.invariant-loop-byte
invariant-loop-byte l = is_blank (drop l.byte-index l.text) ≡ is_blank l.text
