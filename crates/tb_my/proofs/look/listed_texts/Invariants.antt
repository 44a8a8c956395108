use Rattle.std.proofs.Common.{◌≡◌, [], drop}
use Rattle.serde_json.specs.View.{items_view}
use Rattle.tb_my.specs.Look.{with_texts}
use Rattle.tb_my.proofs.look.listed_texts.Given as goal

abbrev pub invariant-loop-item : goal.invariant-loop-item
invariant-loop-item l = with_texts l.texts (items_view (drop l.item-index l.list.items)) ≡ with_texts [] (items_view l.list.items)
