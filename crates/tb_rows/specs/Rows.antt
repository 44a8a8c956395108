-- The rows of a world, in the tables of a store.
use Rattle.std.specs.Prelude.{ℕ, ◌+◌, List, [], ◌∷◌, ◌++◌, Option, Some, None, if◌then◌else◌, map, IsPermutation}
use Rattle.std.specs.List.{flat_map}
use Rattle.tb_task.specs.declared.task.Task.{Task}
use Rattle.tb_json.specs.Stored.{stored_text}
use Rattle.tb_board.specs.declared.board.Board.{Board}
use Rattle.tb_board.specs.declared.gone.Gone.{Gone}
use Rattle.tb_board.specs.declared.world.Person.{Person}
use Rattle.tb_board.specs.declared.world.Role.{Role}
use Rattle.tb_board.specs.declared.world.Role.TheVariants.{Owner, Member, Reader}
use Rattle.tb_board.specs.declared.world.RoleOn.{RoleOn}
use Rattle.tb_board.specs.declared.world.World.{World}
use Rattle.tb_board.specs.Tasks.{ids, place_in}
use Rattle.tb_board.specs.Numbers.{free}
use Rattle.tb_board.specs.Statuses.{is_template}
use Rattle.tb_board.specs.Templates.{mask}
use Rattle.tb_sql_tables.specs.declared.rows.PersonRow.{PersonRow}
use Rattle.tb_sql_tables.specs.declared.rows.BoardRow.{BoardRow}
use Rattle.tb_sql_tables.specs.declared.rows.RoleRow.{RoleRow}
use Rattle.tb_sql_tables.specs.declared.rows.TaskRow.{TaskRow}
use Rattle.tb_sql_tables.specs.declared.rows.LinkRow.{LinkRow}
use Rattle.tb_sql_tables.specs.declared.rows.InstanceRow.{InstanceRow}
use Rattle.tb_sql_tables.specs.declared.rows.GoneRow.{GoneRow}
use Rattle.tb_sql_tables.specs.declared.rows.HorizonRow.{HorizonRow}
use Rattle.tb_sql_tables.specs.Content.{Content}

-- ---- numbers that stand for people and tasks

-- the rows that f gives for each item and its number, the first of which is n
abbrev pub rows_from : {A B : Type 0} → (ℕ → A → List B) → ℕ → List A → List B
rows_from f n [] = []
rows_from f n (x ∷ xs) = f n x ++ rows_from f (n + 1) xs

abbrev pub from_one : Option ℕ → ℕ
from_one None = 0
from_one (Some place) = place + 1

-- the place, counted from 1, of the first task with this identifier, and 0 where there is none
abbrev pub place_of : List Task → ℕ → ℕ
place_of ts id = from_one (place_in (ids ts) id)

-- ---- one row of each table

-- the key, and the empty text where there is none
abbrev pub secret_of : Option (List ℕ) → List ℕ
secret_of None = []
secret_of (Some key) = key

abbrev pub person_row : ℕ → Person → PersonRow
person_row n p = record { id = n; name = p.name; secret = secret_of p.key }

abbrev pub board_row : Board → BoardRow
board_row b = record { id = b.number; title = b.title; low = free b }

abbrev pub role_kind : Role → ℕ
role_kind Owner = 1
role_kind Member = 2
role_kind Reader = 3

abbrev pub role_row : RoleOn → RoleRow
role_row r = record { board = r.board; person = r.person; kind = role_kind r.role }

-- the mask of a template
abbrev pub mask_cell : Board → Task → Option (List ℕ)
mask_cell b t = if is_template t then Some (mask b t.id) else None

abbrev pub task_row : Board → ℕ → Task → TaskRow
task_row b place t =
    record {
      board = b.number;
      place = place;
      uuid = t.id;
      body = stored_text t;
      mask = mask_cell b t;
    }

abbrev pub link_row : Board → ℕ → ℕ → LinkRow
link_row b place id = record { board = b.number; place = place; target = place_of b.tasks id }

abbrev pub instance_row : Board → ℕ → ℕ → ℕ → InstanceRow
instance_row b place parent imask =
    record { board = b.number; template = place_of b.tasks parent; imask = imask; place = place }

abbrev pub gone_row : Board → Gone → GoneRow
gone_row b g = record {
  board = b.number;
  template = place_of b.tasks g.template;
  imask = g.place;
  mark = g.mark ∷ [];
}

abbrev pub horizon_row : Board → HorizonRow
horizon_row b = record { board = b.number; ahead = b.ahead }

-- ---- the rows of a task at a place

-- a link for each task on which it depends
abbrev pub link_rows : Board → ℕ → Task → List LinkRow
link_rows b place t = map (link_row b place) t.depends

-- a row where the task is an instance
abbrev pub instance_rows_of : Board → ℕ → Option ℕ → Option ℕ → List InstanceRow
instance_rows_of b place None imask = []
instance_rows_of b place (Some parent) None = []
instance_rows_of b place (Some parent) (Some imask) = instance_row b place parent imask ∷ []

abbrev pub instance_rows : Board → ℕ → Task → List InstanceRow
instance_rows b place t = instance_rows_of b place t.parent t.imask

-- ---- the rows of a board

abbrev pub board_tasks : Board → List TaskRow
board_tasks b = rows_from (λ place t. task_row b place t ∷ []) 1 b.tasks

abbrev pub board_links : Board → List LinkRow
board_links b = rows_from (link_rows b) 1 b.tasks

abbrev pub board_instances : Board → List InstanceRow
board_instances b = rows_from (instance_rows b) 1 b.tasks

abbrev pub board_gone : Board → List GoneRow
board_gone b = map (gone_row b) b.gone

-- ---- the rows of a world, which keeps no replies and has no history

abbrev pub world_rows : World → Content
world_rows w = record {
  people = rows_from (λ n p. person_row n p ∷ []) 1 w.people;
  boards = map board_row w.boards;
  roles = map role_row w.roles;
  tasks = flat_map board_tasks w.boards;
  links = flat_map board_links w.boards;
  instances = flat_map board_instances w.boards;
  gone = flat_map board_gone w.boards;
  kept = [];
  horizon = map horizon_row w.boards;
  history = [];
}

-- each table but the kept replies and the history has the same rows, in any order
pub record HaveSameRows (c d : Content) : Type 0 where
  pub people : IsPermutation c.people d.people
  pub boards : IsPermutation c.boards d.boards
  pub roles : IsPermutation c.roles d.roles
  pub tasks : IsPermutation c.tasks d.tasks
  pub links : IsPermutation c.links d.links
  pub instances : IsPermutation c.instances d.instances
  pub gone : IsPermutation c.gone d.gone
  pub horizon : IsPermutation c.horizon d.horizon

-- each table has the same rows, in any order
pub record IsSameContent (c d : Content) : Type 0 where
  pub tables : HaveSameRows c d
  pub kept : IsPermutation c.kept d.kept
  pub history : IsPermutation c.history d.history
