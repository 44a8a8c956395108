use Rattle.std.proofs.Common.{◌≡◌, [], drop}
use Rattle.serde_json.specs.View.{items_view}
use Rattle.tb_my.specs.Boards.{with_all_named}
use Rattle.tb_my.proofs.boards.all_named.Given as goal

abbrev pub invariant-loop-board : goal.invariant-loop-board
invariant-loop-board l =
    with_all_named l.name l.numbers (items_view (drop l.board-index l.boards.items)) ≡ with_all_named l.name [] (items_view l.boards.items)
