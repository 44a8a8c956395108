use Rattle.std.proofs.Common.{◌≡◌, false}
use Rattle.std.specs.String.{string_bytes}
use Rattle.sqlite.specs.Held.{state}
use Rattle.tb_sql.specs.Opening.{IsAsBefore}
use Rattle.tb_lookup.specs.Reopening.{OfState}
use Rattle.tb_keeper.proofs.ExportedRows.{ByNotes, IsOut}
use Rattle.tb_keeper.proofs.exporting.write_rows.Given as goal

-- the rows behind are out or pending
abbrev pub invariant-loop-behind : goal.invariant-loop-behind
invariant-loop-behind g l = record {
  idle : l.conn.in_transaction ≡ false;
  same : IsAsBefore (state g.S.Store l.fn.conn) (state g.S.Store l.conn);
  out : OfState (state g.S.Store l.fn.conn) (state g.S.Store l.conn) (ByNotes l.notes l.at l.board (λ b. IsOut b l.at l.behind l.is_first (g.W.Write.contents l.fn.writer) (g.W.Write.contents l.writer) (string_bytes l.pending)));
}
