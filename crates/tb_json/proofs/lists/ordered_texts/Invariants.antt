use Rattle.std.proofs.Common.{◌≡◌, [], map, drop}
use Rattle.tb_values.specs.Texts.{with_texts}
use Rattle.tb_json.proofs.lists.ordered_texts.Given as goal

abbrev pub invariant-loop-text : goal.invariant-loop-text
invariant-loop-text l = with_texts l.set (map (λ text. text.now) (drop l.text-index l.texts)) ≡ with_texts [] (map (λ text. text.now) l.texts)
