use Rattle.std.proofs.Common.{◌≡◌, drop}
use Rattle.tb_rows.specs.Reading.{roles_in}
use Rattle.tb_rows.proofs.reading_roles.add_roles.Given as goal

abbrev pub invariant-loop-row : goal.invariant-loop-row
invariant-loop-row l = roles_in l.roles (drop l.row-index l.rows) ≡ roles_in l.initial.roles l.rows
