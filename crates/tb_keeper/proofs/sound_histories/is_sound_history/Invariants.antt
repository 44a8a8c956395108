use Rattle.std.proofs.Common.{◌≡◌, ◌*◌, false}
use Rattle.sqlite.specs.Held.{state}
use Rattle.tb_sql.specs.Opening.{IsAsBefore}
use Rattle.tb_lookup.specs.Reopening.{OfContent}
use Rattle.tb_keeper.proofs.SoundHistories.{IsSoundUpTo}
use Rattle.tb_keeper.proofs.sound_histories.is_sound_history.Given as goal

abbrev pub invariant-loop-step : goal.invariant-loop-step
invariant-loop-step g l = record {
  idle : l.conn.in_transaction ≡ false;
  same : IsAsBefore (state g.S.Store l.fn.conn) (state g.S.Store l.conn);
  sound : OfContent (state g.S.Store l.fn.conn) (state g.S.Store l.conn) (λ c. IsSoundUpTo c l.board l.tasks (l.step * 1000));
}
