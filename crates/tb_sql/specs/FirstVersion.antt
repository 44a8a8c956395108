-- What a store of the first version holds at first.
use Rattle.tb_sql_tables.specs.declared.rows.PersonRow.{PersonRow}
use Rattle.tb_sql_tables.specs.declared.rows.BoardRow.{BoardRow}
use Rattle.tb_sql_tables.specs.declared.rows.RoleRow.{RoleRow}
use Rattle.tb_sql_tables.specs.Content.{Content, nothing}
use Rattle.tb_sql.specs.Changes.{with_board, with_person, with_role}

abbrev pub first_content : PersonRow → BoardRow → RoleRow → Content
first_content person board role = with_role role (with_board board (with_person person nothing))
