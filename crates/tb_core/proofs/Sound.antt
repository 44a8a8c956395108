-- Actions leave a sound task sound.
use Rattle.std.proofs.Common.{◌≡◌, ℕ, ◌&&◌, ◌||◌, Bool, true, false, List, [], ◌∷◌, Option, Some, None, is_some, refl, true≢false, inl, inr, nat_lt}
use Rattle.std.specs.List.{list_any}
use Rattle.std.specs.Set.{remove_key}
use Rattle.std.proofs.Math.Bool.{or-false}
use Rattle.std.proofs.lemmas.Bool.{cases_Bool}
use Rattle.std.proofs.lemmas.List.Folds.{list_any-append}
use Rattle.tb_task.specs.declared.checks.Field.{Field}
use Rattle.tb_task.specs.declared.checks.Field.TheVariants.{EmptyDescription, BadText}
use Rattle.tb_task.specs.declared.task.Annotation.{Annotation}
use Rattle.tb_task.specs.declared.task.Task.{Task}
use Rattle.tb_task.specs.Checks.{has_bad_recurrence, has_bad_text, is_bad_extra, is_bad_text, is_empty, is_recurring, is_step, some_is_bad}
use Rattle.tb_core.specs.declared.action.Action.{Action}
use Rattle.tb_core.specs.declared.action.Action.TheVariants.{Done, Delete, Reopen, Start, Stop, Annotate, Denotate}
use Rattle.tb_core.specs.Action.{acted, action_fault, takes}
use Rattle.tb_board.specs.Good.{has_template_form, is_deleted, IsSound}
use Rattle.tb_core.specs.Notes.{annotated, denotated, note_fault, says}
use Rattle.tb_core.specs.Transitions.{completed, deleted, reopened, started, stopped}
use Rattle.tb_board.specs.Statuses.{is_pending_or_waiting, is_template, settled}
use Rattle.tb_board.proofs.Fits.{IsFit, fit_if, taken_if, and_true, no_template}

planned : (t : Task) → is_template t ≡ true → has_template_form t ≡ true → (is_some t.due && is_step t.recur) ≡ true
planned t template form =
    let whole : ((is_recurring t.status || is_deleted t.status) && (is_some t.due && is_step t.recur)) ≡ true = rw template at form in
    (and_true (is_recurring t.status || is_deleted t.status) (is_some t.due && is_step t.recur) whole).1

-- a settled task doesn't recur
pub settled_plain : (wait : Option ℕ) (m : ℕ) → is_recurring (settled wait m) ≡ false
settled_plain None m = refl
settled_plain (Some wait) m =
    elim (cases_Bool (nat_lt m wait)) [
      | inl later ↦ rw later refl
      | inr over ↦ rw over refl
    ]

fit_completed : (m : ℕ) (t : Task) → IsFit t → IsFit (completed m t)
unfolding has_bad_text has_bad_recurrence
fit_completed m t f = record { filled = f.filled; tags = f.tags; texts = f.texts; recurrence = refl; link = f.link; names = f.names }

form_completed : (m : ℕ) (t : Task) → is_pending_or_waiting t.status ≡ true → has_template_form t ≡ true → has_template_form (completed m t) ≡ true
form_completed m t h form = rw (no_template t h form) refl

fit_deleted : (m : ℕ) (t : Task) → IsFit t → IsFit (deleted m t)
unfolding has_bad_text has_bad_recurrence
fit_deleted m t f = record { filled = f.filled; tags = f.tags; texts = f.texts; recurrence = refl; link = f.link; names = f.names }

form_deleted : (m : ℕ) (t : Task) → has_template_form t ≡ true → has_template_form (deleted m t) ≡ true
form_deleted m t form =
    elim (cases_Bool (is_template t)) [
      | inl template ↦ rw template (planned t template form)
      | inr plain ↦ rw plain refl
    ]

reopened_recurrence : (m : ℕ) (t : Task) → has_template_form t ≡ true → has_bad_recurrence (reopened m t) ≡ false
unfolding has_bad_recurrence
reopened_recurrence m t form =
    elim (cases_Bool (is_template t)) [
      | inl template ↦ rw (template, planned t template form) refl
      | inr plain ↦ rw (plain, settled_plain t.wait m) refl
    ]

fit_reopened : (m : ℕ) (t : Task) → has_template_form t ≡ true → IsFit t → IsFit (reopened m t)
unfolding has_bad_text
fit_reopened m t form f = record { filled = f.filled; tags = f.tags; texts = f.texts; recurrence = reopened_recurrence m t form; link = f.link; names = f.names }

form_reopened : (m : ℕ) (t : Task) → has_template_form t ≡ true → has_template_form (reopened m t) ≡ true
form_reopened m t form =
    elim (cases_Bool (is_template t)) [
      | inl template ↦ rw (template, planned t template form) refl
      | inr plain ↦ rw (plain, settled_plain t.wait m) refl
    ]

fit_started : (m : ℕ) (t : Task) → IsFit t → IsFit (started m t)
unfolding has_bad_text has_bad_recurrence
fit_started m t f = record { filled = f.filled; tags = f.tags; texts = f.texts; recurrence = f.recurrence; link = f.link; names = f.names }

fit_stopped : (m : ℕ) (t : Task) → IsFit t → IsFit (stopped m t)
unfolding has_bad_text has_bad_recurrence
fit_stopped m t f = record { filled = f.filled; tags = f.tags; texts = f.texts; recurrence = f.recurrence; link = f.link; names = f.names }

some_none : (f : Field) → Some f ≡ None → ⊥
some_none f h = cc

good_note : (text : List ℕ) → note_fault text ≡ None → is_bad_text text ≡ false
good_note text h =
    elim (cases_Bool (is_bad_text text)) [
      | inl bad ↦ elim (cases_Bool (is_empty text)) [
        | inl empty ↦ absurd (some_none EmptyDescription (rw empty at h))
        | inr filled ↦ absurd (some_none BadText (rw (filled, bad) at h))
      ]
      | inr good ↦ good
    ]

annotated_texts : (m : ℕ) (text : List ℕ) (t : Task) → is_bad_text text ≡ false → has_bad_text t ≡ false → has_bad_text (annotated m text t) ≡ false
unfolding has_bad_text
annotated_texts m text t good h =
    rw (list_any-append (λ (a : Annotation). is_bad_text a.description) t.annotations (record { entry = m; description = text } ∷ []), good, or-false) h

fit_annotated : (m : ℕ) (text : List ℕ) (t : Task) → is_bad_text text ≡ false → IsFit t → IsFit (annotated m text t)
unfolding has_bad_recurrence
fit_annotated m text t good f = record { filled = f.filled; tags = f.tags; texts = annotated_texts m text t good f.texts; recurrence = f.recurrence; link = f.link; names = f.names }

any-removed : {A : Type 0} (p test : A → Bool) (xs : List A) → list_any p xs ≡ false → list_any p (remove_key test xs) ≡ false
any-removed p test [] h = refl
any-removed p test (x ∷ xs) h =
    elim (cases_Bool (p x)) [
      | inl bad ↦ let wrong : true ≡ false = rw bad at h in absurd (true≢false wrong)
      | inr good ↦
          let rest : list_any p xs ≡ false = rw good at h in
          elim (cases_Bool (test x)) [
            | inl here ↦ rw here rest
            | inr other ↦ rw (other, good) (any-removed p test xs rest)
          ]
    ]

-- fewer annotations among the texts
fewer_notes : (a b c d e f n : Bool) → (a || b || c || d || e || f) ≡ false → n ≡ false → (a || b || c || d || n || f) ≡ false
fewer_notes true b c d e f n h none = h
fewer_notes false true c d e f n h none = h
fewer_notes false false true d e f n h none = h
fewer_notes false false false true e f n h none = h
fewer_notes false false false false true f n h none = absurd (true≢false h)
fewer_notes false false false false false f n h none = rw none h

notes_of : (a b c d e f : Bool) → (a || b || c || d || e || f) ≡ false → e ≡ false
notes_of true b c d e f h = absurd (true≢false h)
notes_of false true c d e f h = absurd (true≢false h)
notes_of false false true d e f h = absurd (true≢false h)
notes_of false false false true e f h = absurd (true≢false h)
notes_of false false false false true f h = absurd (true≢false h)
notes_of false false false false false f h = refl

denotated_texts : (m : ℕ) (text : List ℕ) (t : Task) → has_bad_text t ≡ false → has_bad_text (denotated m text t) ≡ false
unfolding has_bad_text
denotated_texts m text t h =
    let bad = λ (a : Annotation). is_bad_text a.description in
    let before = notes_of (is_bad_text t.description) (some_is_bad t.project) (some_is_bad t.recur) (list_any is_bad_text t.tags)
    (list_any bad t.annotations) (list_any is_bad_extra t.extras) h in
    fewer_notes (is_bad_text t.description) (some_is_bad t.project) (some_is_bad t.recur) (list_any is_bad_text t.tags)
    (list_any bad t.annotations) (list_any is_bad_extra t.extras) (list_any bad (remove_key (says text) t.annotations)) h
    (any-removed bad (says text) t.annotations before)

fit_denotated : (m : ℕ) (text : List ℕ) (t : Task) → IsFit t → IsFit (denotated m text t)
unfolding has_bad_recurrence
fit_denotated m text t f = record { filled = f.filled; tags = f.tags; texts = denotated_texts m text t f.texts; recurrence = f.recurrence; link = f.link; names = f.names }

pub sound_acted : (m : ℕ) (a : Action) (t : Task) → takes a t ≡ true → action_fault a ≡ None → IsSound t → IsSound (acted m a t)
sound_acted m Done t takes good s = record { taken = taken_if _ (fit_completed m t (fit_if t s.taken)); template = form_completed m t takes s.template }
sound_acted m Delete t takes good s = record { taken = taken_if _ (fit_deleted m t (fit_if t s.taken)); template = form_deleted m t s.template }
sound_acted m Reopen t takes good s = record { taken = taken_if _ (fit_reopened m t s.template (fit_if t s.taken)); template = form_reopened m t s.template }
sound_acted m Start t takes good s = record { taken = taken_if _ (fit_started m t (fit_if t s.taken)); template = s.template }
sound_acted m Stop t takes good s = record { taken = taken_if _ (fit_stopped m t (fit_if t s.taken)); template = s.template }
sound_acted m (Annotate text) t takes good s = record { taken = taken_if _ (fit_annotated m text t (good_note text good) (fit_if t s.taken)); template = s.template }
sound_acted m (Denotate text) t takes good s = record { taken = taken_if _ (fit_denotated m text t (fit_if t s.taken)); template = s.template }
