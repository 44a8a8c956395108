use Rattle.std.proofs.Common.{◌≡◌, [], drop}
use Rattle.serde_json.specs.View.{items_view}
use Rattle.tb_finding.specs.Board.{with_tasks}
use Rattle.tb_finding.proofs.look.listed_tasks.Given as goal

-- the tasks so far and those that are left are all
abbrev pub invariant-loop-item : goal.invariant-loop-item
invariant-loop-item l = with_tasks l.at l.tasks (items_view (drop l.item-index l.list.items)) ≡ with_tasks l.at [] (items_view l.list.items)
