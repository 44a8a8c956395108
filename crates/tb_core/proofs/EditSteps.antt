-- The edits that name no attribute of the task format.
use Rattle.std.proofs.Common.{◌≡◌, ℕ, List, false, bytes_eq, codes, refl, inl, inr}
use Rattle.std.proofs.lemmas.Bool.{cases_Bool}
use Rattle.std.proofs.lemmas.Slice.Eq.{bytes_eq-Decides}
use Rattle.tb_core.specs.Edits.{edited, extended}
use Rattle.tb_task.specs.declared.edit.Edit.{Edit}
use Rattle.tb_task.specs.declared.task.Task.{Task}

apart : (xs ys : List ℕ) → (xs ≡ ys → ⊥) → bytes_eq xs ys ≡ false
apart xs ys differ =
    elim (cases_Bool (bytes_eq xs ys)) [
      | inl same ↦ absurd (differ ((bytes_eq-Decides xs ys).0 same))
      | inr other ↦ other
    ]

pub record IsOther (e : Edit) : Type 0 where
  pub description : e.name ≡ codes "description" → ⊥
  pub due : e.name ≡ codes "due" → ⊥
  pub priority : e.name ≡ codes "priority" → ⊥
  pub project : e.name ≡ codes "project" → ⊥
  pub recur : e.name ≡ codes "recur" → ⊥
  pub scheduled : e.name ≡ codes "scheduled" → ⊥
  pub tags : e.name ≡ codes "tags" → ⊥
  pub until : e.name ≡ codes "until" → ⊥
  pub wait : e.name ≡ codes "wait" → ⊥

pub edited-other : (e : Edit) (t : Task) → IsOther e → edited e t ≡ extended e t
unfolding edited
edited-other e t other =
    rw (
      apart e.name (codes "description") other.description,
      apart e.name (codes "due") other.due,
      apart e.name (codes "priority") other.priority,
      apart e.name (codes "project") other.project,
      apart e.name (codes "recur") other.recur,
      apart e.name (codes "scheduled") other.scheduled,
      apart e.name (codes "tags") other.tags,
      apart e.name (codes "until") other.until,
      apart e.name (codes "wait") other.wait,
    ) refl
