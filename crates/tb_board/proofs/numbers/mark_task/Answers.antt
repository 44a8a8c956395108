use Rattle.tb_board.proofs.Marking.{mark_within, mark_beyond}
use Rattle.tb_board.proofs.numbers.mark_task.Goals as goal

pub returns-then-number-marks : goal.returns-then-number-marks
returns-then-number-marks c = mark_within _ _ _ _ c.in-Some.ensures.1 c.if-number-marks.true

pub returns-else-number-marks : goal.returns-else-number-marks
returns-else-number-marks c = mark_beyond _ _ _ _ c.in-Some.ensures.1 c.if-number-marks.false
