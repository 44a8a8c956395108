use Rattle.std.proofs.Common.{◌≡◌, [], drop, string_bytes}
use Rattle.serde_json.specs.View.{items_view}
use Rattle.tb_my.specs.Shown.{person_line, with_lines}
use Rattle.tb_my.proofs.shown.people_lines.Given as goal

abbrev pub invariant-loop-item : goal.invariant-loop-item
invariant-loop-item l = with_lines person_line (string_bytes l.text) (items_view (drop l.item-index l.list.items)) ≡ with_lines person_line [] (items_view l.list.items)
