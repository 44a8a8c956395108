use Rattle.std.proofs.Common.{◌≤◌, arith, length, rules}
use Rattle.sqlite.specs.Held.{state}
use Rattle.tb_task.specs.Limits.{most_boards}
use Rattle.tb_keeper.specs.SoundRows.{AreNumbered}
use Rattle.std.proofs.lemmas.Result.{IfOk-weaker}
use Rattle.tb_keeper.proofs.Audited.{counted_all}
use Rattle.tb_keeper.proofs.WholeCount.{count_whole}
use Rattle.tb_keeper.proofs.auditing.audit_boards.Goals as goal

pub returns-clause-counted : goal.returns-clause-counted
returns-clause-counted g c =
    IfOk-weaker c.audit_rows.result _ _
    (counted_all c.ids_are_read.ensures (state g.S.Store c.args.conn.now) (state g.S.Store c.board_rows.new.conn) (state g.S.Store c.audit_rows.new.conn) c.in_ok-rows.rows c.in_ok-rows.ensures.same c.in_ok-rows.ensures.found c.audit_rows.ensures.same)
    (rw c.as_slice-2.ensures at c.audit_rows.ensures.counted)

pub returns-clause-whole : goal.returns-clause-whole
returns-clause-whole g c =
    let few : length c.in_ok-rows.rows ≤ most_boards = first_of (search rules, grind arith) in
    let numbered : AreNumbered c.in_ok-rows.rows = rw c.as_slice.ensures at (c.are_numbered.ensures.0 c.if-not-are_numbered.false) in
    IfOk-weaker c.audit_rows.result _ _
    (count_whole (state g.S.Store c.args.conn.now) (state g.S.Store c.board_rows.new.conn) (state g.S.Store c.audit_rows.new.conn) c.args.people c.in_ok-rows.rows c.in_ok-rows.ensures.same c.in_ok-rows.ensures.found
    c.audit_rows.ensures.same few numbered)
    (rw c.as_slice-2.ensures at c.audit_rows.ensures.whole)
