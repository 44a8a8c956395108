use Rattle.std.proofs.Common.{◌≡◌, false, take}
use Rattle.sqlite.specs.Held.{state}
use Rattle.tb_sql.specs.Opening.{IsAsBefore}
use Rattle.tb_lookup.specs.Reopening.{OfState}
use Rattle.tb_keeper.proofs.NotedRows.{AreNotedBy}
use Rattle.tb_keeper.proofs.exporting.note_instances.Given as goal

-- the instances behind are noted
abbrev pub invariant-loop-instance : goal.invariant-loop-instance
invariant-loop-instance g l = record {
  idle : l.conn.in_transaction ≡ false;
  same : IsAsBefore (state g.S.Store l.fn.conn) (state g.S.Store l.conn);
  noted : OfState (state g.S.Store l.fn.conn) (state g.S.Store l.conn) (AreNotedBy l.at l.board (take l.instance-index l.instances) l.notes);
}
