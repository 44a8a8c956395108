use Rattle.std.proofs.Common.{◌≡◌, [], drop, string_bytes}
use Rattle.serde_json.specs.View.{items_view}
use Rattle.tb_my.specs.Shown.{board_line, with_lines}
use Rattle.tb_my.proofs.shown.board_lines.Given as goal

abbrev pub invariant-loop-item : goal.invariant-loop-item
invariant-loop-item l = with_lines board_line (string_bytes l.text) (items_view (drop l.item-index l.list.items)) ≡ with_lines board_line [] (items_view l.list.items)
