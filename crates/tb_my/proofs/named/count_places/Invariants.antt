use Rattle.std.proofs.Common.{◌≡◌, ◌+◌, drop}
use Rattle.tb_my.specs.Named.{count_places}
use Rattle.tb_my.proofs.named.count_places.Given as goal

abbrev pub invariant-loop-word : goal.invariant-loop-word
invariant-loop-word l = record {
  passed : l.count ≡ l.word-index;
  counted : l.count + count_places (drop l.word-index l.words) ≡ count_places l.words;
}
