use Rattle.std.proofs.Common.{◌≡◌, ◌+◌, take}
use Rattle.tb_sql_pages.specs.Last.{AreNumberedFrom}
use Rattle.tb_keeper.proofs.SoundHistories.{number_in}
use Rattle.tb_keeper.proofs.sound_histories.are_numbered_after.Given as goal

abbrev pub invariant-loop-row : goal.invariant-loop-row
invariant-loop-row l = record {
  next : l.next ≡ l.before + 1 + l.row-index;
  numbered : AreNumberedFrom number_in (l.before + 1) (take l.row-index l.rows);
}
