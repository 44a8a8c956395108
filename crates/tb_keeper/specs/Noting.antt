-- What an export notes of the instances of a board, and the marks by its notes.
use Rattle.std.specs.Prelude.{◌≡◌, ◌-◌, ℕ, Bool, ◌&&◌, ◌==◌, ◌+◌, List, [], ◌∷◌, ◌++◌, Option, Some, None, if◌then◌else◌}
use Rattle.std.specs.List.{list_any}
use Rattle.std.specs.Option.{option_map}
use Rattle.tb_task.specs.declared.task.Task.{Task}
use Rattle.tb_task.specs.declared.incoming.Shown.{Shown}
use Rattle.tb_board.specs.Tasks.{wakes, woken}
use Rattle.tb_board.specs.declared.board.Board.{Board}
use Rattle.tb_sql_tables.specs.declared.rows.InstanceRow.{InstanceRow}
use Rattle.tb_keeper.specs.Lending.{row_behind}
use Rattle.tb_keeper.specs.declared.lending.StoredRow.{StoredRow}
use Rattle.tb_keeper.specs.declared.noting.Note.{Note}

-- the place of an instance
abbrev pub note_at : Option ℕ → Option ℕ → List Note
note_at None place = []
note_at (Some id) None = []
note_at (Some id) (Some place) = record { template = id; place = place } ∷ []

-- the place of an instance that waited until the moment
abbrev pub note_of : ℕ → Task → List Note
note_of m t = if wakes m t then note_at t.parent t.imask else []

-- the places of all of them
abbrev pub notes_of : ℕ → List Task → List Note
notes_of m [] = []
notes_of m (t ∷ ts) = note_of m t ++ notes_of m ts

-- of the task of a row, if there is one
abbrev pub note_of_row : ℕ → Option StoredRow → List Note
note_of_row m None = []
note_of_row m (Some row) = note_of m row.task

-- of the task to which the row of an instance leads
abbrev pub note_by : ℕ → Option Board → InstanceRow → List Note
note_by m b instance = note_of_row m (row_behind b (instance.place - 1))

-- What the row of an instance leads to is added.
pub record IsNotedBy (m : ℕ) (b : Option Board) (instance : InstanceRow)
    (old new : List Note) : Type 0 where
  pub more : new ≡ old ++ note_by m b instance

-- it is of an instance of this template
abbrev pub is_of : ℕ → Note → Bool
is_of id n = n.template == id

abbrev pub is_note : ℕ → ℕ → Note → Bool
is_note id k n = (n.template == id) && (n.place == k)

abbrev pub is_noted : List Note → ℕ → ℕ → Bool
is_noted notes id k = list_any (is_note id k) notes

-- the places of all of them are noted, in any order
abbrev pub AreNotes : ℕ → List Task → List Note → Type 0
AreNotes m ts notes = (id k : ℕ) → is_noted notes id k ≡ is_noted (notes_of m ts) id k

-- a hyphen where the place is noted, and else the mark as it was
abbrev pub mark_by : List Note → ℕ → ℕ → ℕ → ℕ
mark_by notes id k c = if is_noted notes id k then 45 else c

-- so with the marks of a template from a place on
abbrev pub marks_by : List Note → ℕ → ℕ → List ℕ → List ℕ
marks_by notes id k [] = []
marks_by notes id k (c ∷ cs) = mark_by notes id k c ∷ marks_by notes id (k + 1) cs

-- the task of a row is woken, and its mask is by the notes
abbrev pub shown_row : List Note → ℕ → StoredRow → Shown
shown_row notes m row = record {
  task = woken m row.task;
  mask = option_map (marks_by notes row.task.id 0) row.mask;
}
