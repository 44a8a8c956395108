use Rattle.std.proofs.Common.{◌∙◌}
use Rattle.sqlite.specs.Held.{state}
use Rattle.tb_keeper.proofs.ExportedBoards.{row_there}
use Rattle.tb_keeper.proofs.exporting.has_board.Goals as goal

pub returns-clause-found : goal.returns-clause-found
returns-clause-found g c clean s stored =
    c.is_some.ensures
    ∙ row_there (state g.S.Store c.args.conn.now) (state g.S.Store c.board_row_at.new.conn) c.args.board c.in_ok-found.found c.in_ok-found.ensures.found clean s stored
