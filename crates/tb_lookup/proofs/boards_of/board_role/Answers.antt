use Rattle.std.proofs.Common.{◌∙◌, sym, ap}
use Rattle.sqlite.specs.Held.{state}
use Rattle.tb_board.specs.Names.{read_title}
use Rattle.tb_lookup.proofs.OwnBoards.{title_stored}
use Rattle.tb_lookup.proofs.boards_of.board_role.Goals as goal

pub returns-in-Ok-Some-clause-found : goal.returns-in-Ok-Some-clause-found
returns-in-Ok-Some-clause-found g c clean s stored =
    record {
      is = title_stored (state g.S.Store c.args.conn.now) (state g.S.Store c.board_row_at.new.conn) c.args.role.now c.in-Some.row c.in-Ok-Some.title (rw c.in-Some.is at c.in_ok-row.ensures.found)
          (sym c.in-Ok-Some.field-0-is ∙ c.in-Ok-Some.ensures ∙ ap read_title c.as_str.ensures) clean s stored;
    }
