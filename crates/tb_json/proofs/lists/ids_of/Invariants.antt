use Rattle.std.proofs.Common.{◌≡◌, [], map, drop}
use Rattle.tb_json.specs.Lists.{ids_of}
use Rattle.tb_json.proofs.lists.ids_of.Given as goal

abbrev pub invariant-loop-text : goal.invariant-loop-text
invariant-loop-text l = ids_of l.ids.items (map (λ text. text.now) (drop l.text-index l.texts)) ≡ ids_of [] (map (λ text. text.now) l.texts)
