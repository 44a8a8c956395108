use Rattle.std.proofs.Common.{◌≡◌, take}
use Rattle.std.specs.String.{string_bytes}
use Rattle.tb_causes.specs.Unanswered.{quoted_words}
use Rattle.tb_causes.proofs.unanswered.quoted_words.Given as goal

abbrev pub invariant-loop-word : goal.invariant-loop-word
invariant-loop-word l = string_bytes l.text ≡ quoted_words (take l.word-index l.word-items)
