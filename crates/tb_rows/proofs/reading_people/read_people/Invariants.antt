use Rattle.std.proofs.Common.{◌≡◌, [], drop}
use Rattle.tb_rows.specs.Reading.{people_in}
use Rattle.tb_rows.proofs.reading_people.read_people.Given as goal

abbrev pub invariant-loop-row : goal.invariant-loop-row
invariant-loop-row l = people_in l.people (drop l.row-index l.rows) ≡ people_in [] l.rows
