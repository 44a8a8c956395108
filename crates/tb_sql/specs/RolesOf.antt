-- The order of one person's roles.
use Rattle.std.specs.Prelude.{◌<◌}
use Rattle.tb_sql_tables.specs.declared.rows.RoleRow.{RoleRow}

abbrev pub IsBoardBefore : RoleRow → RoleRow → Type 0
IsBoardBefore a b = a.board < b.board
