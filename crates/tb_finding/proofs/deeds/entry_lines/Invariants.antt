use Rattle.std.proofs.Common.{◌≡◌, [], drop, string_bytes}
use Rattle.serde_json.specs.View.{items_view}
use Rattle.tb_finding.specs.Deeds.{entry_line}
use Rattle.tb_my.specs.Shown.{with_lines}
use Rattle.tb_finding.proofs.deeds.entry_lines.Given as goal

abbrev pub invariant-loop-item : goal.invariant-loop-item
invariant-loop-item l = with_lines (entry_line l.clock l.tasks) (string_bytes l.text) (items_view (drop l.item-index l.list.items)) ≡ with_lines (entry_line l.clock l.tasks) [] (items_view l.list.items)
