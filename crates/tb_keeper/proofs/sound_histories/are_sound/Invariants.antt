use Rattle.std.proofs.Common.{◌≡◌, false, take}
use Rattle.std.specs.List.{AllByRecursion}
use Rattle.sqlite.specs.Held.{state}
use Rattle.tb_sql.specs.Opening.{IsAsBefore}
use Rattle.tb_lookup.specs.Reopening.{OfContent}
use Rattle.tb_keeper.specs.SoundHistories.{IsSoundEntry}
use Rattle.tb_keeper.proofs.sound_histories.are_sound.Given as goal

abbrev pub invariant-loop-row : goal.invariant-loop-row
invariant-loop-row g l = record {
  idle : l.conn.in_transaction ≡ false;
  same : IsAsBefore (state g.S.Store l.fn.conn) (state g.S.Store l.conn);
  each : OfContent (state g.S.Store l.fn.conn) (state g.S.Store l.conn) (λ c. AllByRecursion (IsSoundEntry c l.tasks) (take l.row-index l.rows));
}
