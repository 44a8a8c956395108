use Rattle.std.proofs.Common.{◌≡◌, [], drop, length}
use Rattle.tb_rows.specs.Reading.{tasks_in}
use Rattle.tb_rows.proofs.reading_tasks.read_tasks.Given as goal

abbrev pub invariant-loop-row : goal.invariant-loop-row
invariant-loop-row l = (length l.tasks ≡ l.row-index) × (tasks_in l.tasks (drop l.row-index l.rows) ≡ tasks_in [] l.rows)
