-- Notes that name the same places make the same marks.
use Rattle.std.proofs.Common.{◌≡◌, ◌+◌, ◌==◌, ◌&&◌, ◌||◌, ℕ, Bool, true, false, cond, List, [], ◌∷◌, Option, Some, None, option_map, filter, if◌then◌else◌, refl, sym, ap, ap₂}
use Rattle.tb_task.specs.declared.incoming.Shown.{Shown}
use Rattle.tb_task.specs.declared.task.Task.{Task}
use Rattle.tb_board.specs.Tasks.{woken}
use Rattle.tb_keeper.specs.Noting.{AreNotes, is_noted, is_of, marks_by, notes_of, shown_row}
use Rattle.tb_keeper.specs.declared.lending.StoredRow.{StoredRow}
use Rattle.tb_keeper.specs.declared.noting.Note.{Note}

marks_same : (notes ns : List Note) (id : ℕ) → ((k : ℕ) → is_noted notes id k ≡ is_noted ns id k) → (k : ℕ) (cs : List ℕ) → marks_by notes id k cs ≡ marks_by ns id k cs
marks_same notes ns id same k [] = refl
marks_same notes ns id same k (c ∷ cs) = ap₂ ◌∷◌ (ap (λ is. if is then 45 else c) (same k)) (marks_same notes ns id same (k + 1) cs)

-- by the notes of all tasks, in any order, a row is shown the same
pub row_same : (notes : List Note) (m : ℕ) (ts : List Task) (row : StoredRow) → AreNotes m ts notes → shown_row (notes_of m ts) m row ≡ shown_row notes m row
row_same notes m ts row are = ap (λ (mask : Option (List ℕ)). let seen : Shown = record { task = woken m row.task; mask = mask } in seen) (go row.mask)
  where
    go : (mask : Option (List ℕ)) → option_map (marks_by (notes_of m ts) row.task.id 0) mask ≡ option_map (marks_by notes row.task.id 0) mask
    go None = refl
    go (Some cs) = ap Some (sym (marks_same notes (notes_of m ts) row.task.id (are row.task.id) 0 cs))

own_noted : (id k : ℕ) (notes : List Note) → is_noted (filter (is_of id) notes) id k ≡ is_noted notes id k
own_noted id k [] = refl
own_noted id k (n ∷ notes) = go (n.template == id) refl (own_noted id k notes)
  where
    own : List Note
    own = filter (is_of id) notes

    go : (here : Bool) → (n.template == id) ≡ here → is_noted own id k ≡ is_noted notes id k → is_noted (cond here (n ∷ own) own) id k ≡ ((here && (n.place == k)) || is_noted notes id k)
    go true is rest = ap₂ ◌||◌ (ap (λ (b : Bool). b && (n.place == k)) is) rest
    go false is rest = rest

-- a template's own notes make its marks
pub own_marks : (notes : List Note) (id : ℕ) (cs : List ℕ) → marks_by (filter (is_of id) notes) id 0 cs ≡ marks_by notes id 0 cs
own_marks notes id cs = marks_same (filter (is_of id) notes) notes id (λ k. own_noted id k notes) 0 cs
