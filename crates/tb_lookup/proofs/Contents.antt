-- Contents that are there.
use Rattle.std.specs.Prelude.{◌⊎◌}
use Rattle.sqlite.specs.State.{State as Database}
use Rattle.tb_sql_tables.specs.Failing.{IsAtRest}
use Rattle.tb_sql_tables.specs.Content.{AreRows, Content, Stands}

-- the content stands, or a database that was opened has its rows
abbrev pub IsThere : Content → Database → Type 0
IsThere c d = Stands c d ⊎ (IsAtRest d × AreRows c d.now.trees)
