use Rattle.std.proofs.Common.{◌≡◌, ◌+◌, drop}
use Rattle.std.specs.Prelude.{◌↔◌}
use Rattle.tb_sql_pages.specs.Last.{AreNumberedFrom}
use Rattle.tb_keeper.specs.SoundRows.{AreNumbered}
use Rattle.tb_keeper.proofs.sound_rows.are_numbered.Given as goal

-- all are numbered where those that are left go on from here
abbrev pub invariant-loop-row : goal.invariant-loop-row
invariant-loop-row l = AreNumberedFrom (λ row. row.id) l.next (drop l.row-index l.rows) ↔ AreNumbered l.rows
