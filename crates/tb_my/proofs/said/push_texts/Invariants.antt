use Rattle.std.proofs.Common.{◌≡◌, ◌++◌, drop}
use Rattle.tb_my.proofs.said.push_texts.Given as goal

abbrev pub invariant-loop-text : goal.invariant-loop-text
invariant-loop-text l = l.texts ++ drop l.text-index l.more ≡ l.fn.texts ++ l.more
