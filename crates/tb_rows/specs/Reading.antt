-- The world that rows stand for. Rows that no world has stand for none.
use Rattle.std.specs.Prelude.{ℕ, ◌+◌, ◌-◌, ◌==◌, Bool, List, [], ◌∷◌, ◌++◌, Result, Ok, Err, if◌then◌else◌, Option, Some, None, option_map, length, filter, slice_get}
use Rattle.tb_values.specs.Outcome.{◌>>=◌}
use Rattle.tb_task.specs.Mask.{mark_in}
use Rattle.tb_task.specs.declared.task.Task.{Task}
use Rattle.tb_json.specs.Stored.{stored_of}
use Rattle.tb_json.specs.declared.fault.JsonFault.{JsonFault}
use Rattle.tb_board.specs.Ahead.{read_ahead}
use Rattle.tb_board.specs.Tasks.{ids}
use Rattle.tb_board.specs.Names.{read_name, read_key, read_title}
use Rattle.tb_board.specs.declared.board.Board.{Board}
use Rattle.tb_board.specs.declared.gone.Gone.{Gone}
use Rattle.tb_board.specs.declared.world.Person.{Person}
use Rattle.tb_board.specs.declared.world.Role.{Role}
use Rattle.tb_board.specs.declared.world.Role.TheVariants.{Owner, Member, Reader}
use Rattle.tb_board.specs.declared.world.RoleOn.{RoleOn}
use Rattle.tb_board.specs.declared.world.World.{World}
use Rattle.tb_sql_tables.specs.Content.{Content}
use Rattle.tb_sql_tables.specs.declared.rows.PersonRow.{PersonRow}
use Rattle.tb_sql_tables.specs.declared.rows.BoardRow.{BoardRow}
use Rattle.tb_sql_tables.specs.declared.rows.RoleRow.{RoleRow}
use Rattle.tb_sql_tables.specs.declared.rows.TaskRow.{TaskRow}
use Rattle.tb_sql_tables.specs.declared.rows.GoneRow.{GoneRow}
use Rattle.tb_sql_tables.specs.declared.rows.HorizonRow.{HorizonRow}
use Rattle.tb_sql.specs.Changes.{is_horizon}
use Rattle.tb_rows.specs.Outcome.{readable}
use Rattle.tb_rows.specs.declared.fault.ReopenFault.{ReopenFault}
use Rattle.tb_rows.specs.declared.fault.ReopenFault.TheVariants.{NotRows}

-- ---- people, who are numbered in order from 1

-- the key of a stored secret: the empty text is no key, and any other text that is no key is a fault
-- Rule: the empty secret is no key. Tried by rows.
abbrev pub secret_in : List ℕ → Result (Option (List ℕ)) ReopenFault
secret_in [] = Ok None
secret_in (c ∷ cs) = readable (option_map Some (read_key (c ∷ cs)))

abbrev pub person_of : PersonRow → Result Person ReopenFault
person_of row = do
  name ← readable (read_name row.name)
  key ← secret_in row.secret
  Ok (record { name = name; key = key })

abbrev pub person_at : ℕ → PersonRow → Result Person ReopenFault
person_at number row = if row.id == number then person_of row else Err NotRows

-- the people of rows, after those found
abbrev pub people_in : List Person → List PersonRow → Result (List Person) ReopenFault
people_in found [] = Ok found
people_in found (row ∷ rows) =
    person_at (length found + 1) row >>= λ person. people_in (found ++ person ∷ []) rows

-- ---- tasks, which stand at the places from 1

abbrev pub body_task : Result Task JsonFault → Result Task ReopenFault
body_task (Ok t) = Ok t
body_task (Err fault) = Err NotRows

-- a body has the identifier that stands beside it
abbrev pub with_id : ℕ → Task → Result Task ReopenFault
with_id id t = if t.id == id then Ok t else Err NotRows

abbrev pub task_of : TaskRow → Result Task ReopenFault
task_of row = body_task (stored_of row.body) >>= with_id row.uuid

abbrev pub task_at : ℕ → TaskRow → Result Task ReopenFault
task_at place row = if row.place == place then task_of row else Err NotRows

-- the tasks of rows, after those found
abbrev pub tasks_in : List Task → List TaskRow → Result (List Task) ReopenFault
tasks_in found [] = Ok found
tasks_in found (row ∷ rows) =
    task_at (length found + 1) row >>= λ t. tasks_in (found ++ t ∷ []) rows

-- ---- places that are gone, of templates at their places

-- the identifier of the task at a place, counted from 1
abbrev pub id_at : List Task → ℕ → Result ℕ ReopenFault
id_at tasks place = if place == 0 then Err NotRows else readable (slice_get (ids tasks) (place - 1))

-- one character of a mask
abbrev pub mark_of : List ℕ → Result ℕ ReopenFault
mark_of [] = Err NotRows
mark_of (c ∷ []) = readable (mark_in c)
mark_of (c ∷ d ∷ rest) = Err NotRows

abbrev pub gone_of : List Task → GoneRow → Result Gone ReopenFault
gone_of tasks row = do
  template ← id_at tasks row.template
  mark ← mark_of row.mark
  Ok (record { template = template; place = row.imask; mark = mark })

-- the gone places of rows, after those found
abbrev pub gone_in : List Task → List Gone → List GoneRow → Result (List Gone) ReopenFault
gone_in tasks found [] = Ok found
gone_in tasks found (row ∷ rows) = gone_of tasks row >>= λ g. gone_in tasks (found ++ g ∷ []) rows

-- ---- boards, each of its own rows

-- how far ahead a board looks, by its one row
abbrev pub ahead_of : Option HorizonRow → Result ℕ ReopenFault
ahead_of None = Err NotRows
ahead_of (Some row) = readable (read_ahead row.ahead)

abbrev pub board_of : BoardRow → Option HorizonRow → List TaskRow → List GoneRow
    → Result Board ReopenFault
board_of row horizon task_rows gone_rows = do
  title ← readable (read_title row.title)
  ahead ← ahead_of horizon
  tasks ← tasks_in [] task_rows
  gone ← gone_in tasks [] gone_rows
  Ok (record { number = row.id; title = title; tasks = tasks; gone = gone; ahead = ahead })

abbrev pub is_task_on : ℕ → TaskRow → Bool
is_task_on n row = row.board == n

abbrev pub is_gone_on : ℕ → GoneRow → Bool
is_gone_on n row = row.board == n

-- the first of those on a board
abbrev pub horizon_on : ℕ → List HorizonRow → Option HorizonRow
horizon_on n rows = slice_get (filter (is_horizon n) rows) 0

-- the boards of rows, after those found
abbrev pub boards_in : List HorizonRow → List TaskRow → List GoneRow → List Board → List BoardRow
    → Result (List Board) ReopenFault
boards_in horizons tasks gone found [] = Ok found
boards_in horizons tasks gone found (row ∷ rows) =
    board_of row (horizon_on row.id horizons) (filter (is_task_on row.id) tasks)
    (filter (is_gone_on row.id) gone) >>= λ b. boards_in horizons tasks gone (found ++ b ∷ []) rows

-- ---- roles

-- 1 is owner, 2 is member, 3 is reader
abbrev pub role_of_kind : ℕ → Result Role ReopenFault
role_of_kind kind = if kind == 1 then Ok Owner else if kind == 2 then Ok Member else if kind == 3
    then Ok Reader else Err NotRows

abbrev pub role_of : RoleRow → Result RoleOn ReopenFault
role_of row = role_of_kind row.kind >>= λ role. Ok
    (record { board = row.board; person = row.person; role = role })

-- the roles of rows, after those found
abbrev pub roles_in : List RoleOn → List RoleRow → Result (List RoleOn) ReopenFault
roles_in found [] = Ok found
roles_in found (row ∷ rows) = role_of row >>= λ r. roles_in (found ++ r ∷ []) rows

-- ---- the world of rows that stand in the order of their keys

abbrev pub world_in : Content → Result World ReopenFault
world_in content = do
  people ← people_in [] content.people
  boards ← boards_in content.horizon content.tasks content.gone [] content.boards
  roles ← roles_in [] content.roles
  Ok (record { people = people; boards = boards; roles = roles })
