use Rattle.std.proofs.Common.{◌≡◌, [], drop}
use Rattle.tb_rows.specs.Reading.{gone_in}
use Rattle.tb_rows.proofs.reading_gone.read_gone.Given as goal

abbrev pub invariant-loop-row : goal.invariant-loop-row
invariant-loop-row l = gone_in l.tasks l.gone (drop l.row-index l.rows) ≡ gone_in l.tasks [] l.rows
