use Rattle.std.proofs.Common.{◌≡◌, ◌≤◌, ◌*◌, drop, take, false}
use Rattle.sqlite.specs.Held.{state}
use Rattle.tb_sql.specs.Opening.{IsAsBefore}
use Rattle.tb_keeper.proofs.Counting.{CountsUpTo}
use Rattle.tb_keeper.proofs.WholeCount.{CountsFirst}
use Rattle.tb_keeper.proofs.auditing.audit_rows.Given as goal

abbrev pub invariant-loop-row : goal.invariant-loop-row
invariant-loop-row g l = record {
  idle : l.conn.in_transaction ≡ false;
  same : IsAsBefore (state g.S.Store l.fn.conn) (state g.S.Store l.conn);
  boards : l.audit.boards ≡ l.row-index;
  tasks : l.audit.tasks ≤ 10000 * l.row-index;
  faults : l.audit.faults ≤ l.row-index;
  counted : CountsUpTo (state g.S.Store l.fn.conn) (state g.S.Store l.conn) l.rows (drop l.row-index l.rows) l.audit;
  first : CountsFirst (state g.S.Store l.fn.conn) (state g.S.Store l.conn) l.people (take l.row-index l.rows) l.audit;
}
