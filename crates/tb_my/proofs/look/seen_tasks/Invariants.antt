use Rattle.std.proofs.Common.{◌≡◌, [], drop}
use Rattle.serde_json.specs.View.{items_view}
use Rattle.tb_my.specs.Look.{with_seen}
use Rattle.tb_my.proofs.look.seen_tasks.Given as goal

abbrev pub invariant-loop-item : goal.invariant-loop-item
invariant-loop-item l = with_seen l.seen (items_view (drop l.item-index l.list.items)) ≡ with_seen [] (items_view l.list.items)
