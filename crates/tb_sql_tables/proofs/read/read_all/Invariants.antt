use Rattle.std.proofs.Common.{◌≡◌, map, take}
use Rattle.tb_sql_tables.proofs.read.read_all.Given as goal

abbrev pub invariant-rows : goal.invariant-rows
invariant-rows g l = l.items ≡ map g.T.Stored.read_as (take l.row-index l.rows)
