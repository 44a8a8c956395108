use Rattle.std.proofs.Common.{◌≡◌, map, take}
use Rattle.tb_sql_pages.specs.Read.{history_of}
use Rattle.tb_sql_pages.proofs.read.read_entries.Given as goal

abbrev pub invariant-rows : goal.invariant-rows
invariant-rows l = l.items ≡ map history_of (take l.row-index l.rows)
