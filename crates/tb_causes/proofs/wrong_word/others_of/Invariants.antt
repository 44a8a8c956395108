use Rattle.std.proofs.Common.{◌≡◌, map, take}
use Rattle.tb_causes.specs.WrongWord.{others_of}
use Rattle.tb_causes.proofs.wrong_word.others_of.Given as goal

abbrev pub invariant-loop-word : goal.invariant-loop-word
invariant-loop-word l =
    map (λ word. word.now) l.others.items ≡ others_of (map (λ word. word.now) (take l.word-index l.words))
