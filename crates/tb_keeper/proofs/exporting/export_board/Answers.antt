use Rattle.std.proofs.Common.{◌∙◌, sym}
use Rattle.sqlite.specs.Held.{state}
use Rattle.tb_board.specs.World.{find_board}
use Rattle.tb_keeper.specs.declared.export_fault.ExportFault.TheVariants.{Store}
use Rattle.tb_keeper.proofs.ExportedBoards.{cut, cut_missing, cut_none, exported, ok_by, store_fault_other, store_other}
use Rattle.tb_keeper.proofs.exporting.export_board.Goals as goal

pub returns-then-not-is_autocommit-clause-front : goal.returns-then-not-is_autocommit-clause-front
returns-then-not-is_autocommit-clause-front g c clean s stored = cut_none (find_board s.world c.args.board) c.args.at Store (g.W.Write.contents c.args.writer.now) store_other

pub returns-in-Err-clause-front : goal.returns-in-Err-clause-front
returns-in-Err-clause-front g c clean s stored =
    cut_none (find_board s.world c.args.board) c.args.at c.fault_of.result (g.W.Write.contents c.args.writer.now) (λ is. store_fault_other c.in-Err.fault (sym c.fault_of.ensures ∙ is))

pub returns-then-not-there-clause-front : goal.returns-then-not-there-clause-front
returns-then-not-there-clause-front g c =
    cut_missing (state g.S.Store c.args.conn.now) (state g.S.Store c.has_board.new.conn) c.args.board c.args.at (g.W.Write.contents c.args.writer.now) c.in-Ok.there c.in-Ok.ensures.found c.if-not-there.true

pub returns-clause-told : goal.returns-clause-told
returns-clause-told g c =
    let here = c.in-Ok.ensures in
    ok_by c.write_board.result (λ count told. exported (state g.S.Store c.args.conn.now) (state g.S.Store c.has_board.new.conn) (state g.S.Store c.write_board.new.conn) c.args.board c.args.at
    (g.W.Write.contents c.args.writer.now) (g.W.Write.contents c.write_board.new.writer) c.in-Ok.there here.same here.idle c.write_board.ensures.same here.found c.if-not-there.false count told) c.write_board.ensures.told

pub returns-clause-front : goal.returns-clause-front
returns-clause-front g c =
    let here = c.in-Ok.ensures in
    cut (state g.S.Store c.args.conn.now) (state g.S.Store c.has_board.new.conn) (state g.S.Store c.write_board.new.conn) c.args.board c.args.at
    (g.W.Write.contents c.args.writer.now) (g.W.Write.contents c.write_board.new.writer) c.in-Ok.there here.same here.idle c.write_board.ensures.same here.found c.if-not-there.false c.write_board.result c.write_board.ensures.fault c.write_board.ensures.front

pub returns-clause-unwritten : goal.returns-clause-unwritten
returns-clause-unwritten g c is = absurd (c.write_board.ensures.fault is)
