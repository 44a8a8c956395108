-- What changes make of a board and of a world.
use Rattle.std.specs.Prelude.{◌≡◌, ℕ, not, List, [], ◌∷◌, ◌++◌, Option, Some, if◌then◌else◌, filter, length, nat_lt, slice_set}
use Rattle.std.specs.List.{AllByRecursion}
use Rattle.tb_task.specs.declared.task.Task.{Task}
use Rattle.tb_board.specs.declared.board.Board.{Board}
use Rattle.tb_board.specs.declared.change.Change.{Change}
use Rattle.tb_board.specs.declared.change.Change.TheVariants.{PutTask, AddPerson, SetKey, AddBoard, SetTitle, SetRole, SetGone, TakeGone, SetAhead}
use Rattle.tb_board.specs.declared.draft.Draft.{Draft}
use Rattle.tb_board.specs.declared.gone.Gone.{Gone}
use Rattle.tb_board.specs.declared.world.Person.{Person}
use Rattle.tb_board.specs.declared.world.World.{World}
use Rattle.tb_board.specs.First.{change_first}
use Rattle.tb_board.specs.Roles.{set_role}
use Rattle.tb_board.specs.Templates.{is_gone_at}
use Rattle.tb_board.specs.World.{has_name, has_number}

-- a task at its place, or last where the list has no such place
abbrev pub put : List Task → ℕ → Task → List Task
put tasks place t = if nat_lt place (length tasks) then slice_set tasks place t else tasks ++ t ∷ []

abbrev pub with_task_at : ℕ → Task → Board → Board
with_task_at place t b = record b { tasks = put b.tasks place t }

-- a place more is gone, and goes last
abbrev pub with_gone : Gone → Board → Board
with_gone g b = record b { gone = b.gone ++ g ∷ [] }

-- without the place k of the template
abbrev pub without_place : ℕ → ℕ → List Gone → List Gone
without_place id k gs = filter (λ g. not (is_gone_at id k g)) gs

abbrev pub without_gone : ℕ → ℕ → Board → Board
without_gone id k b = record b { gone = without_place id k b.gone }

-- so many instances ahead
abbrev pub with_ahead : ℕ → Board → Board
with_ahead ahead b = record b { ahead = ahead }

-- another title
-- Rule: a board may get another title, and keeps its number. Tried by board_retitled.
abbrev pub with_title : List ℕ → Board → Board
with_title title b = record b { title = title }

-- another key, or none
-- Rule: name and roles stay when a key is set or removed. Tried by person_key.
abbrev pub with_key : Option (List ℕ) → Person → Person
with_key key p = record p { key = key }

-- the first person of this name has this key, or none
abbrev pub set_key : List ℕ → Option (List ℕ) → List Person → List Person
set_key name key people = change_first (has_name name) (with_key key) people

-- the first board with this number is changed by f, and nothing else
abbrev pub change_board : ℕ → (Board → Board) → List Board → List Board
change_board n f bs = change_first (has_number n) f bs

abbrev pub changed_by : World → Change → World
changed_by w (PutTask n place t) =
    record w { boards = change_board n (with_task_at place t) w.boards }
changed_by w (AddPerson name key) =
    record w { people = w.people ++ record { name = name; key = Some key } ∷ [] }
changed_by w (SetKey name key) = record w { people = set_key name key w.people }
changed_by w (AddBoard n title) =
    record w {
      boards = w.boards
          ++ record { number = n; title = title; tasks = []; gone = []; ahead = 1 } ∷ [];
    }
changed_by w (SetTitle n title) =
    record w { boards = change_board n (with_title title) w.boards }
changed_by w (SetRole n person role) = record w { roles = set_role w.roles n person role }
changed_by w (SetGone n g) = record w { boards = change_board n (with_gone g) w.boards }
changed_by w (TakeGone n id k) = record w { boards = change_board n (without_gone id k) w.boards }
changed_by w (SetAhead n ahead) = record w { boards = change_board n (with_ahead ahead) w.boards }

-- the world after the changes, one after the other
abbrev pub changed : World → List Change → World
changed w [] = w
changed w (c ∷ cs) = changed (changed_by w c) cs

-- what a change makes of the board that it names
abbrev pub changed_on : Board → Change → Board
changed_on b (PutTask n place t) = with_task_at place t b
changed_on b (AddPerson name key) = b
changed_on b (SetKey name key) = b
changed_on b (AddBoard n title) = b
changed_on b (SetTitle n title) = with_title title b
changed_on b (SetRole n person role) = b
changed_on b (SetGone n g) = with_gone g b
changed_on b (TakeGone n id k) = without_gone id k b
changed_on b (SetAhead n ahead) = with_ahead ahead b

-- a board after the changes, all of which are its own
abbrev pub replayed : Board → List Change → Board
replayed b [] = b
replayed b (c ∷ cs) = replayed (changed_on b c) cs

-- the change is one of board n
abbrev pub IsOn : ℕ → Change → Type 0
IsOn n (PutTask m place t) = m ≡ n
IsOn n (AddPerson name key) = ⊥
IsOn n (SetKey name key) = ⊥
IsOn n (AddBoard m title) = ⊥
IsOn n (SetTitle m title) = m ≡ n
IsOn n (SetRole m person role) = ⊥
IsOn n (SetGone m g) = m ≡ n
IsOn n (TakeGone m id k) = m ≡ n
IsOn n (SetAhead m ahead) = m ≡ n

-- the draft's changes are those of its board, and make it of the first one
pub record IsDraft (start : Board) (d : Draft) : Type 0 where
  pub own : AllByRecursion (IsOn d.board.number) d.changes
  pub made : replayed start d.changes ≡ d.board

-- the later draft is made of what the earlier one was made of
abbrev pub Follows : Draft → Draft → Type 0
Follows earlier later = (start : Board) → IsDraft start earlier → IsDraft start later
