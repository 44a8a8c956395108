use Rattle.std.proofs.Common.{sym, ◌∙◌}
use Rattle.tb_board.specs.Board.{with_task}
use Rattle.tb_board.proofs.Fresh.{free_is}
use Rattle.tb_rows.proofs.PushedRows.{taken_before}
use Rattle.tb_rows.proofs.numbering.next_number.Goals as goal

pub loop-first-init : goal.loop-first-init
loop-first-init c = record { from = c.in-Some.ensures.from; taken = taken_before c.args.board.now c.args.task.now c.in-Some.first c.in-Some.ensures }

pub returns : goal.returns
returns c =
    sym (free_is (with_task c.args.board.now c.args.task.now) c.loop-first.number c.loop-first.invariant.from c.loop-first.invariant.taken
    (sym c.is_taken.ensures ∙ c.loop-first-test.false))
