use Rattle.std.proofs.Common.{◌≡◌, drop}
use Rattle.tb_json.specs.Numbers.{with_digits}
use Rattle.tb_json.proofs.numbers.decimal_of.Given as goal

abbrev pub invariant-loop-byte : goal.invariant-loop-byte
invariant-loop-byte l = with_digits l.number (drop l.byte-index l.byte-items) ≡ with_digits 0 l.text
