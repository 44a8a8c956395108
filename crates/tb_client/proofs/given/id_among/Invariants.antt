use Rattle.std.proofs.Common.{◌≡◌, map, drop}
use Rattle.tb_client.specs.Line.{id_among}
use Rattle.tb_client.proofs.given.id_among.Given as goal

abbrev pub invariant-loop-word : goal.invariant-loop-word
invariant-loop-word l =
    id_among (map (λ word. word.now) (drop l.word-index l.words)) ≡ id_among (map (λ word. word.now) l.words)
