use Rattle.std.proofs.Common.{ap, sym, ◌∙◌}
use Rattle.tb_board.specs.Board.{lacks_depends}
use Rattle.tb_rows.proofs.PushedRows.{push_rows_are}
use Rattle.tb_rows.proofs.quick.push_rows.Goals as goal

pub returns : goal.returns
returns c people =
    c.in_ok-rows.ensures
    ∙ push_rows_are c.args.board.now c.args.task.now c.requires.plain (ap (lacks_depends c.args.board.now) (sym c.as_slice.ensures.items) ∙ sym c.lacks_one.ensures ∙ c.if-lacks_one.false) c.in-Some.low c.in-Some.ensures people
