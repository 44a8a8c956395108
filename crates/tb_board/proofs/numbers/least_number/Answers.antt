use Rattle.tb_board.proofs.Indexed.{least_is_free}
use Rattle.tb_board.proofs.KnownNumbers.{least_is_free as free_by_marks}
use Rattle.tb_board.specs.Marks.{Knows}
use Rattle.tb_board.proofs.numbers.least_number.Goals as goal

pub returns-in-Some-clause-free : goal.returns-in-Some-clause-free
returns-in-Some-clause-free c = least_is_free c.args.board.now c.in-Some.number c.in-Some.ensures

pub returns-clause-free : goal.returns-clause-free
returns-clause-free c =
    let knows : Knows c.args.board.now c.deref.result.now 1 = rw c.deref.ensures.value c.in_ok-marks.ensures in
    free_by_marks c.args.board.now c.deref.result.now c.next_unmarked-number.result knows c.next_unmarked-number.ensures c.requires
