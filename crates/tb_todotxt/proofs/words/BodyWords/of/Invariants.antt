use Rattle.std.proofs.Common.{◌≡◌, map, drop}
use Rattle.tb_todotxt.specs.Words.{with_words, no_words}
use Rattle.tb_todotxt.proofs.words.BodyWords.of.Given as goal

abbrev pub invariant-loop-word : goal.invariant-loop-word
invariant-loop-word l = with_words l.said (map (λ word. word.now) (drop l.word-index l.word-items)) ≡ with_words no_words (map (λ word. word.now) l.word-items)
