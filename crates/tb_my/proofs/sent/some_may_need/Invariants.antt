use Rattle.std.proofs.Common.{◌≡◌, drop}
use Rattle.tb_my.specs.Sent.{some_may_need}
use Rattle.tb_my.proofs.sent.some_may_need.Given as goal

abbrev pub invariant-loop-word : goal.invariant-loop-word
invariant-loop-word l = some_may_need (drop l.word-index l.words) ≡ some_may_need l.words
