use Rattle.sqlite.specs.Held.{state}
use Rattle.tb_keeper.proofs.ExportedBoards.{ok_by}
use Rattle.tb_keeper.proofs.NotedRows.{noted_found}
use Rattle.tb_keeper.proofs.exporting.noted_rows.Goals as goal

pub returns-clause-found : goal.returns-clause-found
returns-clause-found g c =
    let here = c.in_ok-instances.ensures in
    ok_by c.note_instances.result (λ notes noted. noted_found (state g.S.Store c.args.conn.now) (state g.S.Store c.instance_rows.new.conn) (state g.S.Store c.note_instances.new.conn) c.args.at c.args.board c.in_ok-instances.instances notes
    here.same here.idle c.note_instances.ensures.same here.found (rw c.as_slice.ensures at noted)) c.note_instances.ensures.found
