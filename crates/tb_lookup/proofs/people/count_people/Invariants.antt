use Rattle.std.proofs.Common.{◌≡◌, ◌≤◌, ◌<◌, ◌-◌, false, length}
use Rattle.sqlite.specs.Held.{state}
use Rattle.tb_sql.specs.Opening.{IsAsBefore}
use Rattle.tb_sql_tables.specs.Failing.{KeepsFaults}
use Rattle.tb_lookup.specs.Reopening.{OfState}
use Rattle.tb_lookup.proofs.Counting.{AreBetween}
use Rattle.tb_lookup.proofs.people.count_people.Given as goal

abbrev pub invariant-loop-low : goal.invariant-loop-low
invariant-loop-low g l = record {
  idle : l.conn.in_transaction ≡ false;
  same : IsAsBefore (state g.S.Store l.fn.conn) (state g.S.Store l.conn);
  faults : KeepsFaults (state g.S.Store l.fn.conn) (state g.S.Store l.conn);
  apart : l.low < l.above;
  most : l.above ≤ 10001;
  between : OfState (state g.S.Store l.fn.conn) (state g.S.Store l.conn) (AreBetween (λ s. length s.world.people) l.low l.above);
}

abbrev pub decreases-loop-low : goal.decreases-loop-low
decreases-loop-low g l = l.above - l.low
