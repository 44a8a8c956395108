-- The rows of the tables as SQLite keeps them.
use Rattle.std.specs.Prelude.{[], ◌∷◌, codes, ℕ, pos}
use Rattle.std.specs.Int.{to_be_bytes, w128}
use Rattle.sqlite_value.specs.declared.value.Value.TheVariants.{Null, Int, Text as Words, Blob as Bytes}
use Rattle.sqlite_value.specs.Order.{Row}
use Rattle.sqlite.specs.Values.{or_null}
use Rattle.tb_sql_tables.specs.declared.rows.PersonRow.{PersonRow}
use Rattle.tb_sql_tables.specs.declared.rows.BoardRow.{BoardRow}
use Rattle.tb_sql_tables.specs.declared.rows.RoleRow.{RoleRow}
use Rattle.tb_sql_tables.specs.declared.rows.TaskRow.{TaskRow}
use Rattle.tb_sql_tables.specs.declared.rows.LinkRow.{LinkRow}
use Rattle.tb_sql_tables.specs.declared.rows.InstanceRow.{InstanceRow}
use Rattle.tb_sql_tables.specs.declared.rows.GoneRow.{GoneRow}
use Rattle.tb_sql_tables.specs.declared.rows.KeptRow.{KeptRow}
use Rattle.tb_sql_tables.specs.declared.rows.HorizonRow.{HorizonRow}
use Rattle.tb_sql_tables.specs.declared.rows.HistoryRow.{HistoryRow}

-- ---- tables whose INTEGER PRIMARY KEY is the rowid: the rowid, and then the columns, of which that one reads NULL

abbrev pub version_row : ℕ → Row
version_row version = Int (pos 1) ∷ Null ∷ Words (codes "taskboard") ∷ Int (pos version) ∷ []

abbrev pub meta_row : Row
meta_row = version_row 2

abbrev pub old_meta_row : Row
old_meta_row = version_row 1

abbrev pub person_row : PersonRow → Row
person_row person = Int (pos person.id) ∷ Null ∷ Words person.name ∷ Words person.secret ∷ []

abbrev pub board_row : BoardRow → Row
board_row board = Int (pos board.id) ∷ Null ∷ Words board.title ∷ Int (pos board.low) ∷ []

abbrev pub horizon_row : HorizonRow → Row
horizon_row horizon = Int (pos horizon.board) ∷ Null ∷ Int (pos horizon.ahead) ∷ []

-- ---- the other tables: the columns alone

abbrev pub role_row : RoleRow → Row
role_row role = Int (pos role.board) ∷ Int (pos role.person) ∷ Int (pos role.kind) ∷ []

abbrev pub task_row : TaskRow → Row
task_row task = Int (pos task.board) ∷ Int (pos task.place) ∷ Bytes (to_be_bytes w128 task.uuid)
    ∷ Words task.body ∷ or_null Words task.mask ∷ []

abbrev pub link_row : LinkRow → Row
link_row link = Int (pos link.board) ∷ Int (pos link.place) ∷ Int (pos link.target) ∷ []

abbrev pub instance_row : InstanceRow → Row
instance_row instance = Int (pos instance.board) ∷ Int (pos instance.template)
    ∷ Int (pos instance.imask) ∷ Int (pos instance.place) ∷ []

abbrev pub gone_row : GoneRow → Row
gone_row gone = Int (pos gone.board) ∷ Int (pos gone.template) ∷ Int (pos gone.imask)
    ∷ Words gone.mark ∷ []

abbrev pub kept_row : KeptRow → Row
kept_row kept =
    Int (pos kept.person) ∷ Bytes (to_be_bytes w128 kept.id) ∷ Bytes kept.content
    ∷ Int (pos kept.number) ∷ Int (pos kept.status) ∷ Words kept.body ∷ []

abbrev pub history_row : HistoryRow → Row
history_row row = Int (pos row.board) ∷ Int (pos row.number) ∷ Int (pos row.moment)
    ∷ Int (pos row.person) ∷ Bytes (to_be_bytes w128 row.call) ∷ Int (pos row.what)
    ∷ or_null (λ place. Int (pos place)) row.task ∷ []
