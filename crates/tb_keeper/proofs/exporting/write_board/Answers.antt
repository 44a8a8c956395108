use Rattle.std.proofs.Common.{◌≡◌, length}
use Rattle.std.specs.Io.KnownBytes.{Appends}
use Rattle.std.proofs.lemmas.Result.{on_err_weaker}
use Rattle.sqlite.specs.Held.{state}
use Rattle.tb_values.specs.Appends.{AppendsFront}
use Rattle.tb_keeper.specs.Exporting.{tasks_on, text_on}
use Rattle.tb_keeper.proofs.ExportedBoards.{by_notes, front_none, ok_by}
use Rattle.tb_keeper.proofs.exporting.write_board.Goals as goal

pub returns-in-Ok-clause-told : goal.returns-in-Ok-clause-told
returns-in-Ok-clause-told g c =
    let here = c.in-Ok.ensures in
    ok_by c.write_rows.result (λ count told. by_notes (state g.S.Store c.args.conn.now) (state g.S.Store c.noted_rows.new.conn) (state g.S.Store c.write_rows.new.conn) c.in-Ok.notes c.args.board c.args.at
    (λ o. (count ≡ length (tasks_on o)) × Appends (g.W.Write.contents c.args.writer.now) (g.W.Write.contents c.write_rows.new.writer) (text_on o c.args.at)) here.same here.idle c.write_rows.ensures.same here.found (rw c.as_slice.ensures at told)) c.write_rows.ensures.told

pub returns-in-Ok-clause-front : goal.returns-in-Ok-clause-front
returns-in-Ok-clause-front g c =
    let here = c.in-Ok.ensures in
    on_err_weaker c.write_rows.result (λ front. by_notes (state g.S.Store c.args.conn.now) (state g.S.Store c.noted_rows.new.conn) (state g.S.Store c.write_rows.new.conn) c.in-Ok.notes c.args.board c.args.at
    (λ o. AppendsFront (g.W.Write.contents c.args.writer.now) (g.W.Write.contents c.write_rows.new.writer) (text_on o c.args.at)) here.same here.idle c.write_rows.ensures.same here.found (rw c.as_slice.ensures at front)) c.write_rows.ensures.front

pub returns-in-Err-clause-front : goal.returns-in-Err-clause-front
returns-in-Err-clause-front g c = front_none (state g.S.Store c.args.conn.now) (state g.S.Store c.noted_rows.new.conn) c.args.board c.args.at (g.W.Write.contents c.args.writer.now)
