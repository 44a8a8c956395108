use Rattle.std.proofs.Common.{◌≡◌, false, take}
use Rattle.sqlite.specs.Held.{state}
use Rattle.tb_sql.specs.Opening.{IsAsBefore}
use Rattle.tb_lookup.specs.Histories.{AreShown}
use Rattle.tb_lookup.specs.Reopening.{OfState}
use Rattle.tb_lookup.proofs.histories.shown_entries.Given as goal

abbrev pub invariant-loop-row : goal.invariant-loop-row
invariant-loop-row g l = record {
  idle : l.conn.in_transaction ≡ false;
  same : IsAsBefore (state g.S.Store l.fn.conn) (state g.S.Store l.conn);
  shown : OfState (state g.S.Store l.fn.conn) (state g.S.Store l.conn) (λ s. AreShown s l.board (take l.row-index l.rows) l.entries);
}
