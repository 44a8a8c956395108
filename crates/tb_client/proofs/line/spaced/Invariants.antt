use Rattle.std.proofs.Common.{◌≡◌, ◌++◌, drop}
use Rattle.tb_client.specs.Line.{spaced_after}
use Rattle.tb_client.proofs.line.spaced.Given as goal

abbrev pub invariant-loop-word : goal.invariant-loop-word
invariant-loop-word l = l.text ++ spaced_after (drop l.word-index l.rest) ≡ l.initial.text ++ spaced_after l.rest
