-- What a statement does to the content.
use Rattle.std.specs.Prelude.{if◌then◌else◌, List, ◌∷◌, map, filter, not, ◌&&◌, ◌==◌, ◌<◌, ◌≡◌, ◌⊎◌, bytes_eq, ℕ, Bool, Option}
use Rattle.tb_sql_tables.specs.declared.rows.PersonRow.{PersonRow}
use Rattle.tb_sql_tables.specs.declared.rows.BoardRow.{BoardRow}
use Rattle.tb_sql_tables.specs.declared.rows.RoleRow.{RoleRow}
use Rattle.tb_sql_tables.specs.declared.rows.TaskRow.{TaskRow}
use Rattle.tb_sql_tables.specs.declared.rows.LinkRow.{LinkRow}
use Rattle.tb_sql_tables.specs.declared.rows.InstanceRow.{InstanceRow}
use Rattle.tb_sql_tables.specs.declared.rows.GoneRow.{GoneRow}
use Rattle.tb_sql_tables.specs.declared.rows.KeptRow.{KeptRow}
use Rattle.tb_sql_tables.specs.declared.rows.HorizonRow.{HorizonRow}
use Rattle.tb_sql_tables.specs.Content.{Content}

-- ---- a row that goes in

abbrev pub with_person : PersonRow → Content → Content
with_person person content = record content { people = person ∷ content.people }

abbrev pub with_board : BoardRow → Content → Content
with_board board content = record content { boards = board ∷ content.boards }

abbrev pub with_role : RoleRow → Content → Content
with_role role content = record content { roles = role ∷ content.roles }

abbrev pub with_task : TaskRow → Content → Content
with_task task content = record content { tasks = task ∷ content.tasks }

abbrev pub with_link : LinkRow → Content → Content
with_link link content = record content { links = link ∷ content.links }

abbrev pub with_instance : InstanceRow → Content → Content
with_instance instance content = record content { instances = instance ∷ content.instances }

abbrev pub with_gone : GoneRow → Content → Content
with_gone gone content = record content { gone = gone ∷ content.gone }

abbrev pub with_kept : KeptRow → Content → Content
with_kept kept content = record content { kept = kept ∷ content.kept }

abbrev pub with_horizon : HorizonRow → Content → Content
with_horizon horizon content = record content { horizon = horizon ∷ content.horizon }

-- ---- the rows of a key

abbrev pub is_board : ℕ → BoardRow → Bool
is_board id board = board.id == id

abbrev pub is_person : ℕ → PersonRow → Bool
is_person id person = person.id == id

abbrev pub is_named : List ℕ → PersonRow → Bool
is_named name person = bytes_eq person.name name

abbrev pub is_role : ℕ → ℕ → RoleRow → Bool
is_role board person role = (role.board == board) && (role.person == person)

abbrev pub is_task : ℕ → ℕ → TaskRow → Bool
is_task board place task = (task.board == board) && (task.place == place)

abbrev pub is_link_from : ℕ → ℕ → LinkRow → Bool
is_link_from board place link = (link.board == board) && (link.place == place)

abbrev pub is_gone : ℕ → ℕ → ℕ → GoneRow → Bool
is_gone board template imask gone =
    (gone.board == board) && ((gone.template == template) && (gone.imask == imask))

abbrev pub is_kept : ℕ → ℕ → KeptRow → Bool
is_kept person id kept = (kept.person == person) && (kept.id == id)

abbrev pub is_horizon : ℕ → HorizonRow → Bool
is_horizon board horizon = horizon.board == board

-- ---- rows that go

abbrev pub without_role : ℕ → ℕ → Content → Content
without_role board person content =
    record content { roles = filter (λ role. not (is_role board person role)) content.roles }

abbrev pub without_links : ℕ → ℕ → Content → Content
without_links board place content =
    record content { links = filter (λ link. not (is_link_from board place link)) content.links }

abbrev pub without_gone : ℕ → ℕ → ℕ → Content → Content
without_gone board template imask content =
    record content { gone = filter (λ gone. not (is_gone board template imask gone)) content.gone }

-- ---- rows that change

-- the person of this name has this secret
abbrev pub with_secret : List ℕ → List ℕ → Content → Content
with_secret name secret content =
    record content {
      people = map
          (λ (person : PersonRow). if is_named name person
          then (let changed : PersonRow = record person { secret = secret } in changed)
          else person) content.people;
    }

-- the board of this number has this title
abbrev pub with_title : ℕ → List ℕ → Content → Content
with_title id title content =
    record content {
      boards = map
          (λ (board : BoardRow). if is_board id board
          then (let changed : BoardRow = record board { title = title } in changed) else board)
          content.boards;
    }

-- the board of this number has this least free number
abbrev pub with_low : ℕ → ℕ → Content → Content
with_low id low content =
    record content {
      boards = map
          (λ (board : BoardRow). if is_board id board
          then (let changed : BoardRow = record board { low = low } in changed) else board)
          content.boards;
    }

-- the board of this number has so many instances ahead
abbrev pub with_ahead : ℕ → ℕ → Content → Content
with_ahead board ahead content =
    record content {
      horizon = map
          (λ (horizon : HorizonRow). if is_horizon board horizon
          then (let changed : HorizonRow = record horizon { ahead = ahead } in changed)
          else horizon)
          content.horizon;
    }

-- the task at the place has this text and this mask
abbrev pub with_text : ℕ → ℕ → List ℕ → Option (List ℕ) → Content → Content
with_text board place body mask content =
    record content {
      tasks = map
          (λ (task : TaskRow). if is_task board place task
          then (let changed : TaskRow = record task { body = body; mask = mask } in changed)
          else task) content.tasks;
    }

-- the task at the place has this mask
abbrev pub with_mask : ℕ → ℕ → Option (List ℕ) → Content → Content
with_mask board place mask content =
    record content {
      tasks = map
          (λ (task : TaskRow). if is_task board place task
          then (let changed : TaskRow = record task { mask = mask } in changed) else task)
          content.tasks;
    }

-- ---- orders of rows, by the rest of the key

abbrev pub IsPersonBefore : PersonRow → PersonRow → Type 0
IsPersonBefore a b = a.id < b.id

abbrev pub IsBoardBefore : BoardRow → BoardRow → Type 0
IsBoardBefore a b = a.id < b.id

abbrev pub IsRoleBefore : RoleRow → RoleRow → Type 0
IsRoleBefore a b = a.person < b.person

abbrev pub IsTaskBefore : TaskRow → TaskRow → Type 0
IsTaskBefore a b = a.place < b.place

abbrev pub IsLinkBefore : LinkRow → LinkRow → Type 0
IsLinkBefore a b = (a.place < b.place) ⊎ ((a.place ≡ b.place) × (a.target < b.target))

abbrev pub IsInstanceBefore : InstanceRow → InstanceRow → Type 0
IsInstanceBefore a b = (a.template < b.template) ⊎ ((a.template ≡ b.template) × (a.imask < b.imask))

abbrev pub IsGoneBefore : GoneRow → GoneRow → Type 0
IsGoneBefore a b = (a.template < b.template) ⊎ ((a.template ≡ b.template) × (a.imask < b.imask))
