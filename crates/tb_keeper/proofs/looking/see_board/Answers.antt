use Rattle.std.proofs.lemmas.Result.{err_from_is_err_and}
use Rattle.tb_lookup.proofs.Excused.{err_told}
use Rattle.tb_keeper.proofs.looking.see_board.Goals as goal

pub returns-in_err-board-clause-excused : goal.returns-in_err-board-clause-excused
returns-in_err-board-clause-excused g c is =
    let p = err_from_is_err_and c.from_residual.result c.from_residual.ensures.1 in
    c.in_err-board.ensures.excused (err_told c.from_residual.result p.0 _ p.1 p.2 is)
