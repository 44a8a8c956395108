use Rattle.std.proofs.Common.{refl}
use Rattle.std.proofs.lemmas.Result.{IfOk-weaker}
use Rattle.tb_board.proofs.Marking.{knows_begin}
use Rattle.tb_board.proofs.numbers.taken_numbers.Goals as goal

pub returns : goal.returns
returns c = IfOk-weaker c.marks_of.result _ _ (λ marks marked. knows_begin c.args.board.now _ _ marks.items c.as_slice.ensures refl marked) c.marks_of.ensures
