use Rattle.std.proofs.Common.{◌≡◌, [], map, drop}
use Rattle.serde_json.specs.View.{items_view}
use Rattle.tb_json.specs.Lists.{texts_of}
use Rattle.tb_json.proofs.lists.texts_of.Given as goal

abbrev pub invariant-loop-item : goal.invariant-loop-item
invariant-loop-item l = texts_of (map (λ text. text.now) l.texts.items) (items_view (drop l.item-index l.list.items)) ≡ texts_of [] (items_view l.list.items)
