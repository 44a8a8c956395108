-- Edits leave a sound task sound.
use Rattle.std.proofs.Common.{◌≡◌, ℕ, ◌&&◌, ◌||◌, Bool, true, false, not, List, [], ◌∷◌, Option, None, bytes_eq, codes, refl, sym, ◌∙◌, true≢false, inl, inr, if◌then◌else◌}
use Rattle.std.proofs.lemmas.Bool.{cases_Bool}
use Rattle.tb_board.specs.Good.{has_template_form, IsSound}
use Rattle.tb_board.specs.Statuses.{is_pending_or_waiting, is_template, settled}
use Rattle.tb_board.proofs.Fits.{no_template}
use Rattle.tb_board.proofs.Goodness.{Keeps}
use Rattle.tb_board.proofs.Relinking.{or_false}
use Rattle.tb_core.specs.Edits.{edited, edited_by, extended, modified, names}
use Rattle.tb_core.specs.Modify.{is_fixed, is_misplaced}
use Rattle.tb_core.proofs.Sound.{settled_plain}
use Rattle.tb_task.specs.Attributes.{is_attribute}
use Rattle.tb_task.specs.Checks.{fault_of, is_recurring}
use Rattle.tb_task.specs.declared.edit.Edit.{Edit}
use Rattle.tb_task.specs.declared.status.Status.{Status}
use Rattle.tb_task.specs.declared.task.Task.{Task}

-- what edits with these names leave of a task
pub record IsEdited (names_due names_recur : Bool) (t u : Task) : Type 0 where
  pub id : u.id ≡ t.id
  pub depends : u.depends ≡ t.depends
  pub parent : u.parent ≡ t.parent
  pub imask : u.imask ≡ t.imask
  pub status : u.status ≡ t.status
  pub due : names_due ≡ false → u.due ≡ t.due
  pub recur : names_recur ≡ false → u.recur ≡ t.recur

abbrev is_due : Edit → Bool
is_due e = bytes_eq e.name (codes "due")

abbrev is_recur : Edit → Bool
is_recur e = bytes_eq e.name (codes "recur")

either : {A : Type 0} (P : A → Type 0) (c : Bool) (x y : A) → (c ≡ true → P x) → P y → P (if c then x else y)
either P true x y p q = p refl
either P false x y p q = q

-- edits of the other attributes leave all of these
leaves : (e : Edit) (t u : Task) → u.id ≡ t.id → u.depends ≡ t.depends → u.parent ≡ t.parent → u.imask ≡ t.imask → u.status ≡ t.status → u.due ≡ t.due → u.recur ≡ t.recur
    → IsEdited (is_due e) (is_recur e) t u
leaves e t u id depends parent imask status due recur = record { id = id; depends = depends; parent = parent; imask = imask; status = status; due = λ _. due; recur = λ _. recur }

is_edited : (e : Edit) (t : Task) → IsEdited (is_due e) (is_recur e) t (edited e t)
unfolding edited extended
is_edited e t =
    let P = IsEdited (is_due e) (is_recur e) t in
    either P (bytes_eq e.name (codes "description")) _ _ (λ _. leaves e t _ refl refl refl refl refl refl refl)
    (either P (is_due e) _ _ (λ h. record { id = refl; depends = refl; parent = refl; imask = refl; status = refl; due = λ other. absurd (true≢false (sym h ∙ other)); recur = λ _. refl })
    (either P (bytes_eq e.name (codes "priority")) _ _ (λ _. leaves e t _ refl refl refl refl refl refl refl)
    (either P (bytes_eq e.name (codes "project")) _ _ (λ _. leaves e t _ refl refl refl refl refl refl refl)
    (either P (is_recur e) _ _ (λ h. record { id = refl; depends = refl; parent = refl; imask = refl; status = refl; due = λ _. refl; recur = λ other. absurd (true≢false (sym h ∙ other)) })
    (either P (bytes_eq e.name (codes "scheduled")) _ _ (λ _. leaves e t _ refl refl refl refl refl refl refl)
    (either P (bytes_eq e.name (codes "tags")) _ _ (λ _. leaves e t _ refl refl refl refl refl refl refl)
    (either P (bytes_eq e.name (codes "until")) _ _ (λ _. leaves e t _ refl refl refl refl refl refl refl)
    (either P (bytes_eq e.name (codes "wait")) _ _ (λ _. leaves e t _ refl refl refl refl refl refl refl)
    (either P (is_attribute e.name) _ _ (λ _. leaves e t _ refl refl refl refl refl refl refl)
    (leaves e t _ refl refl refl refl refl refl refl))))))))))

pub is_edited_by : (es : List Edit) (t : Task) → IsEdited (names (codes "due") es) (names (codes "recur") es) t (edited_by es t)
is_edited_by [] t = record { id = refl; depends = refl; parent = refl; imask = refl; status = refl; due = λ _. refl; recur = λ _. refl }
is_edited_by (e ∷ es) t =
    let first = is_edited e t in
    let rest = is_edited_by es (edited e t) in
    record {
      id = rest.id ∙ first.id;
      depends = rest.depends ∙ first.depends;
      parent = rest.parent ∙ first.parent;
      imask = rest.imask ∙ first.imask;
      status = rest.status ∙ first.status;
      due = λ h. let none = or_false (is_due e) (names (codes "due") es) h in rest.due none.1 ∙ first.due none.0;
      recur = λ h. let none = or_false (is_recur e) (names (codes "recur") es) h in rest.recur none.1 ∙ first.recur none.0;
    }

pub keeps_modified : (m : ℕ) (es : List Edit) → names (codes "recur") es ≡ false → Keeps (modified m es)
keeps_modified m es none = record {
  id = λ t. (is_edited_by es t).id;
  depends = λ t. (is_edited_by es t).depends;
  links = record {
    parent = λ t. (is_edited_by es t).parent;
    imask = λ t. (is_edited_by es t).imask;
    template = λ t. let left = is_edited_by es t in rw (left.recur none, left.parent) refl;
  };
}

-- where no refusal holds the step isn't named
pub recur_unnamed : (es : List Edit) (t : Task) → is_misplaced es t ≡ false → is_fixed es t ≡ false → names (codes "recur") es ≡ false
recur_unnamed es t placed free =
    elim (cases_Bool (is_template t)) [
      | inl template ↦
          let unnamed : (names (codes "due") es || names (codes "recur") es) ≡ false = rw template at free in
          (or_false (names (codes "due") es) (names (codes "recur") es) unnamed).1
      | inr plain ↦ first_of (names (codes "recur") es) (rw plain at placed)
    ]
  where
    first_of : (p : Bool) → (p && true) ≡ false → p ≡ false
    first_of true h = absurd (true≢false h)
    first_of false h = refl

-- a template is neither pending nor waiting
stays_template : (t : Task) → is_template t ≡ true → has_template_form t ≡ true → is_pending_or_waiting t.status ≡ false
stays_template t template form =
    elim (cases_Bool (is_pending_or_waiting t.status)) [
      | inl standing ↦ absurd (true≢false (sym template ∙ no_template t standing form))
      | inr other ↦ other
    ]

form_template : (m : ℕ) (es : List Edit) (t : Task) → is_template t ≡ true → is_fixed es t ≡ false → has_template_form t ≡ true → has_template_form (modified m es t) ≡ true
form_template m es t template free form =
    let left = is_edited_by es t in
    let unnamed : (names (codes "due") es || names (codes "recur") es) ≡ false = rw template at free in
    let none = or_false (names (codes "due") es) (names (codes "recur") es) unnamed in
    rw (left.status, left.parent, left.due none.0, left.recur none.1, stays_template t template form) form

form_plain : (m : ℕ) (es : List Edit) (t : Task) → is_template t ≡ false → is_misplaced es t ≡ false → has_template_form t ≡ true → has_template_form (modified m es t) ≡ true
form_plain m es t plain placed form =
    let left = is_edited_by es t in
    let none = and_true_false (names (codes "recur") es) (rw plain at placed) in
    let stays : not (is_recurring t.status) ≡ true = rw plain at form in
    rw (left.status, left.parent, left.recur none, plain) (settles t.status (edited_by es t).wait m stays)
  where
    and_true_false : (p : Bool) → (p && true) ≡ false → p ≡ false
    and_true_false true h = absurd (true≢false h)
    and_true_false false h = refl

    settles : (s : Status) (wait : Option ℕ) (m : ℕ) → not (is_recurring s) ≡ true → not (is_recurring (if is_pending_or_waiting s then settled wait m else s)) ≡ true
    settles s wait m h =
        elim (cases_Bool (is_pending_or_waiting s)) [
          | inl standing ↦ rw (standing, settled_plain wait m) refl
          | inr other ↦ rw other h
        ]

pub sound_modified : (m : ℕ) (es : List Edit) (t : Task) → is_misplaced es t ≡ false → fault_of (modified m es t) ≡ None → is_fixed es t ≡ false → IsSound t → IsSound (modified m es t)
sound_modified m es t placed good free sound =
    elim (cases_Bool (is_template t)) [
      | inl template ↦ record { taken = good; template = form_template m es t template free sound.template }
      | inr plain ↦ record { taken = good; template = form_plain m es t plain placed sound.template }
    ]
