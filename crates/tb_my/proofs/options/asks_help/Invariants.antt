use Rattle.std.proofs.Common.{◌≡◌, drop}
use Rattle.tb_my.specs.Options.{asks_help}
use Rattle.tb_my.proofs.options.asks_help.Given as goal

abbrev pub invariant-loop-word : goal.invariant-loop-word
invariant-loop-word l = asks_help (drop l.word-index l.words) ≡ asks_help l.words
