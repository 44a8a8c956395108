use Rattle.std.proofs.Common.{◌≡◌, ◌++◌, drop}
use Rattle.tb_finding.proofs.names.push_texts.Given as goal

abbrev pub invariant-loop-text : goal.invariant-loop-text
invariant-loop-text l = l.names ++ drop l.text-index l.texts ≡ l.fn.names ++ l.texts
