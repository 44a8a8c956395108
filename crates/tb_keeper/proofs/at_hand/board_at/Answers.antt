use Rattle.std.proofs.Common.{◌∙◌, sym}
use Rattle.tb_keeper.proofs.Looked.{at_hand_found, own_number}
use Rattle.std.proofs.lemmas.Result.{err_from_is_err_and}
use Rattle.tb_lookup.proofs.Excused.{err_told}
use Rattle.tb_keeper.proofs.at_hand.board_at.Goals as goal

pub returns-in-Some-clause-found : goal.returns-in-Some-clause-found
returns-in-Some-clause-found g c clean s stored are = at_hand_found s.world c.args.cache.now.entries c.args.number c.in-Some.board (sym c.in-Some.is ∙ c.in_ok-board.ensures.found) are

pub returns-in-Ok-clause-cached : goal.returns-in-Ok-clause-cached
returns-in-Ok-clause-cached g c clean s stored are =
    c.put_at_hand.ensures.of s.world (c.in_ok-board.ensures.of s.world are) (own_number s.world c.args.number c.in_ok-found.found (c.in_ok-found.ensures.found clean s stored))

pub returns-in-Err-clause-cached : goal.returns-in-Err-clause-cached
returns-in-Err-clause-cached g c clean s stored are =
    c.put_at_hand.ensures.of s.world (c.in_ok-board.ensures.of s.world are) (own_number s.world c.args.number c.in_ok-found.found (c.in_ok-found.ensures.found clean s stored))

pub returns-in_err-board-clause-excused : goal.returns-in_err-board-clause-excused
returns-in_err-board-clause-excused g c is =
    let p = err_from_is_err_and c.from_residual.result c.from_residual.ensures.1 in
    absurd (c.in_err-board.ensures.fault (err_told c.from_residual.result p.0 _ p.1 p.2 is))

pub returns-in_err-found-clause-excused : goal.returns-in_err-found-clause-excused
returns-in_err-found-clause-excused g c is =
    let p = err_from_is_err_and c.from_residual-in_err-found.result c.from_residual-in_err-found.ensures.1 in
    c.in_err-found.ensures.excused (err_told c.from_residual-in_err-found.result p.0 _ p.1 p.2 is)
