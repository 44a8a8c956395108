use Rattle.std.proofs.Common.{◌≡◌, drop}
use Rattle.tb_my.specs.Named.{with_new}
use Rattle.tb_my.proofs.named.push_new.Given as goal

abbrev pub invariant-loop-seen : goal.invariant-loop-seen
invariant-loop-seen l = with_new l.named (drop l.seen-index l.more) ≡ with_new l.fn.named l.more
