use Rattle.std.proofs.Common.{◌≡◌, ◌∙◌, sym, slice_index_or}
use Rattle.tb_board.specs.Changing.{with_title}
use Rattle.tb_board.specs.First.{IsFirst, IsNone}
use Rattle.tb_board.specs.World.{has_number}
use Rattle.tb_board.proofs.Places.{changed_there}
use Rattle.tb_board.proofs.Reinserted.{reinserted}
use Rattle.tb_board.proofs.changing.boards_with_title.Goals as goal

pub returns-in_default : goal.returns-in_default
returns-in_default c =
    let none : IsNone (has_number c.args.number) c.args.boards = rw c.as_slice.ensures at c.in_default.ensures in
    sym (none.changed (with_title c.args.title.now))

pub returns : goal.returns
returns c =
    let first : IsFirst (has_number c.args.number) c.args.boards c.in-Some.index = rw c.as_slice.ensures at c.in-Some.ensures in
    let board : c.remove-board.result ≡ slice_index_or c.args.boards c.in-Some.index c.remove-board.result = rw c.into_vec-boards.ensures at c.remove-board.ensures.value in
    let after = with_title c.args.title.now in
    rw (c.from_vec.ensures, c.in_ok-insert.ensures.items, c.remove-board.ensures.items, c.into_vec-boards.ensures, c.in_ok-new.ensures, c.in_ok-board.ensures)
    (reinserted c.args.boards c.in-Some.index (after c.remove-board.result) first.within ∙ changed_there _ after c.args.boards c.in-Some.index c.remove-board.result first board)
