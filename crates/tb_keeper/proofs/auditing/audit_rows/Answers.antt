use Rattle.std.proofs.Common.{arith}
use Rattle.sqlite.specs.Held.{state}
use Rattle.tb_keeper.proofs.Counting.{one_counted}
use Rattle.tb_lookup.proofs.Standing.{before_then}
use Rattle.tb_keeper.proofs.WholeCount.{all_first, one_first}
use Rattle.tb_keeper.proofs.auditing.audit_rows.Goals as goal

pub loop-row-preserved : goal.loop-row-preserved
loop-row-preserved g c =
    let was = c.loop-row.invariant in
    let start = state g.S.Store c.args.conn.now in
    let before = state g.S.Store c.loop-row.conn in
    let after = state g.S.Store c.check_row.new.conn in
    record {
      idle = c.in_ok-checked.ensures.idle;
      same = before_then start before after was.same c.in_ok-checked.ensures.same;
      boards = omega (arith, c.with_board-audit.ensures.boards, was.boards);
      tasks = omega (arith, c.with_board-audit.ensures.tasks, was.tasks, c.in_ok-checked.ensures.few);
      faults = grind (arith, c.with_board-audit.ensures.faults, was.faults);
      counted = one_counted start before after c.args.rows.now c.loop-row.row-index c.row-item.result c.loop-row.audit c.with_board-audit.result c.in_ok-checked.checked c.loop-row-test.true c.row-item.is was.same
          c.in_ok-checked.ensures.same c.in_ok-checked.ensures.checked
          (record { boards = c.with_board-audit.ensures.boards; tasks = c.with_board-audit.ensures.tasks; faults = c.with_board-audit.ensures.faults }) was.counted;
      first = one_first start before after c.args.people c.args.rows.now c.loop-row.row-index c.row-item.result c.loop-row.audit c.with_board-audit.result c.in_ok-checked.checked c.loop-row-test.true c.row-item.is was.same
          c.in_ok-checked.ensures.same c.in_ok-checked.ensures.whole
          (record { boards = c.with_board-audit.ensures.boards; tasks = c.with_board-audit.ensures.tasks; faults = c.with_board-audit.ensures.faults }) was.first;
    }

pub returns-clause-whole : goal.returns-clause-whole
returns-clause-whole g c =
    all_first (state g.S.Store c.args.conn.now) (state g.S.Store c.loop-row.conn) c.args.people c.args.rows.now c.loop-row.row-index c.loop-row.audit c.loop-row-test.false c.loop-row.invariant.first
