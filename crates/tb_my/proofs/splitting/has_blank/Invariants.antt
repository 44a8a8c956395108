use Rattle.std.proofs.Common.{◌≡◌, drop}
use Rattle.tb_my.specs.Splitting.{has_blank}
use Rattle.tb_my.proofs.splitting.has_blank.Given as goal

abbrev pub invariant-loop-byte : goal.invariant-loop-byte
invariant-loop-byte l = has_blank (drop l.byte-index l.text) ≡ has_blank l.text
