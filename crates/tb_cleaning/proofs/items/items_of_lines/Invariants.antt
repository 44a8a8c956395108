use Rattle.std.proofs.Common.{◌≡◌, [], map, drop}
use Rattle.serde_json.specs.View.{view}
use Rattle.tb_json.specs.Import.{items_of_lines}
use Rattle.tb_cleaning.proofs.items.items_of_lines.Given as goal

abbrev pub invariant-loop-line : goal.invariant-loop-line
invariant-loop-line l = items_of_lines (map view l.items.items) (map (λ line. line.now) (drop l.line-index l.line-items)) ≡ items_of_lines [] (map (λ line. line.now) l.line-items)
