-- New tasks are sound.
use Rattle.std.proofs.Common.{◌≡◌, ◌⊎◌, ℕ, ◌||◌, not, Bool, true, false, true≢false, List, Option, Some, None, is_some, if◌then◌else◌, length, nat_lt, unwrap_or, refl, sym, ◌∙◌, ap, inl, inr, []}
use Rattle.std.specs.List.{list_any}
use Rattle.std.proofs.lemmas.Bool.{cases_Bool}
use Rattle.std.proofs.Math.Bool.{and-false}
use Rattle.tb_task.specs.declared.checks.Field.{Field}
use Rattle.tb_task.specs.declared.incoming.Incoming.{Incoming}
use Rattle.tb_task.specs.declared.task.Annotation.{Annotation}
use Rattle.tb_task.specs.declared.task.Task.{Task}
use Rattle.tb_task.specs.Checks.{fault_of, has_bad_recurrence, has_bad_text, has_half_link, is_bad_extra, is_bad_text, is_recurring, some_is_bad}
use Rattle.tb_board.specs.declared.board.Board.{Board}
use Rattle.tb_board.specs.declared.gone.Gone.{Gone}
use Rattle.tb_board.specs.Good.{has_template_form, IsSound}
use Rattle.tb_board.specs.Statuses.{is_template}
use Rattle.tb_board.proofs.Fits.{IsFit, fit_if, taken_if}
use Rattle.tb_import.specs.Entering.{entered, is_linked, is_orphan, is_taken, kept_depends, takes}
use Rattle.tb_import.specs.Refusal.{first_fault, import_fault, is_misformed, is_misread}
use Rattle.tb_import.proofs.Moving.{or_parts}

-- the task with these links
abbrev made : Task → List ℕ → Option (List ℕ) → Option ℕ → Option ℕ → Task
made t ds r p k = record t { depends = ds; recur = r; parent = p; imask = k }

texts_without : (a b c d e f : Bool) → (a || b || c || d || e || f) ≡ false → (a || b || false || d || e || f) ≡ false
texts_without true b c d e f h = absurd (true≢false h)
texts_without false true c d e f h = absurd (true≢false h)
texts_without false false true d e f h = absurd (true≢false h)
texts_without false false false d e f h = h

texts_made : (t : Task) (ds : List ℕ) (r : Option (List ℕ)) (p k : Option ℕ) → (r ≡ None) ⊎ (r ≡ t.recur) → has_bad_text t ≡ false → has_bad_text (made t ds r p k) ≡ false
unfolding has_bad_text
texts_made t ds r p k (inl none) h = ap (λ s. has_bad_text (made t ds s p k)) none ∙ texts_without (is_bad_text t.description) (some_is_bad t.project) (some_is_bad t.recur) (list_any is_bad_text t.tags)
    (list_any (λ (a : Annotation). is_bad_text a.description) t.annotations) (list_any is_bad_extra t.extras) h
texts_made t ds r p k (inr same) h = ap (λ s. has_bad_text (made t ds s p k)) same ∙ h

fit_made : (t : Task) (ds : List ℕ) (r : Option (List ℕ)) (p k : Option ℕ) → (r ≡ None) ⊎ (r ≡ t.recur) → has_bad_recurrence (made t ds r p k) ≡ false
    → has_half_link (made t ds r p k) ≡ false → IsFit t → IsFit (made t ds r p k)
fit_made t ds r p k recurs recurrence link f =
    record { filled = f.filled; tags = f.tags; texts = texts_made t ds r p k recurs f.texts; recurrence = recurrence; link = link; names = f.names }

recur_is : (orphan : Bool) (r : Option (List ℕ)) → ((if orphan then None else r) ≡ None) ⊎ ((if orphan then None else r) ≡ r)
recur_is true r = inl refl
recur_is false r = inr refl

never_recurs : (t : Task) → is_recurring t.status ≡ false → has_bad_recurrence t ≡ false
unfolding has_bad_recurrence
never_recurs t other = rw other refl

plain_form : (t : Task) → is_template t ≡ false → is_recurring t.status ≡ false → has_template_form t ≡ true
plain_form t plain other = rw (plain, other) refl

-- what is taken has both
pub taken_both : (b : Board) (new : List Incoming) (gs : List Gone) (o p : Option ℕ) → is_taken b new gs o p ≡ true → (is_some o ≡ true) × (is_some p ≡ true)
taken_both b new gs None p h = absurd (true≢false (sym h))
taken_both b new gs (Some q) None h = absurd (true≢false (sym h))
taken_both b new gs (Some q) (Some k) h = (refl, refl)

-- what came as no instance takes no place
taken_none : (b : Board) (new : List Incoming) (gs : List Gone) (o p : Option ℕ) → (is_some o || is_some p) ≡ false → is_taken b new gs o p ≡ false
taken_none b new gs None p h = refl
taken_none b new gs (Some q) p h = absurd (true≢false h)

pub takes_none : (b : Board) (new : List Incoming) (gs : List Gone) (i : Incoming) → is_linked i ≡ false → takes b new gs i ≡ false
takes_none b new gs i plain = taken_none b new gs i.raw_parent i.raw_imask plain

sound_instance : (b : Board) (new : List Incoming) (i : Incoming) → is_some i.raw_parent ≡ true → is_some i.raw_imask ≡ true → is_recurring i.task.status ≡ false
    → IsFit i.task → IsSound (entered b new true i)
sound_instance b new i parent imask other f =
    record {
      taken = taken_if _
          (fit_made i.task (kept_depends b new i.task.depends) (if is_orphan true i then None else i.task.recur) i.raw_parent i.raw_imask (recur_is (is_orphan true i) i.task.recur)
          (never_recurs (entered b new true i) other) (rw (parent, imask) refl) f);
      template = plain_form (entered b new true i) (rw parent (and-false _)) other;
    }

sound_orphan : (b : Board) (new : List Incoming) (i : Incoming) → is_linked i ≡ true → is_recurring i.task.status ≡ false → IsFit i.task → IsSound (entered b new false i)
sound_orphan b new i linked other f =
    record {
      taken = taken_if _
          (fit_made i.task (kept_depends b new i.task.depends) (if is_orphan false i then None else i.task.recur) None None (recur_is (is_orphan false i) i.task.recur)
          (never_recurs (entered b new false i) other) refl f);
      template = plain_form (entered b new false i) (rw linked refl) other;
    }

no_parent : (o : Option ℕ) → is_some o ≡ false → o ≡ None
no_parent None h = refl
no_parent (Some q) h = absurd (true≢false h)

not_false : (p : Bool) → not p ≡ false → p ≡ true
not_false true h = refl
not_false false h = absurd (true≢false h)

plain_recurrence : (t : Task) (ds : List ℕ) → has_bad_recurrence t ≡ false → has_bad_recurrence (made t ds t.recur None None) ≡ false
unfolding has_bad_recurrence
plain_recurrence t ds h = h

made_form : (t : Task) (ds : List ℕ) → t.parent ≡ None → has_template_form t ≡ true → has_template_form (made t ds t.recur None None) ≡ true
made_form t ds none form = let h = rw none at form in h

sound_plain : (b : Board) (new : List Incoming) (i : Incoming) → is_linked i ≡ false → is_misformed i ≡ false → IsFit i.task → IsSound (entered b new false i)
sound_plain b new i plain formed f =
    let parts = or_parts (is_some i.task.parent) (not (has_template_form i.task)) formed in
    let ds = kept_depends b new i.task.depends in
    let whole : IsSound (made i.task ds i.task.recur None None) =
    record {
      taken = taken_if _ (fit_made i.task ds i.task.recur None None (inr refl) (plain_recurrence i.task ds f.recurrence) refl f);
      template = made_form i.task ds (no_parent i.task.parent parts.0) (not_false (has_template_form i.task) parts.1);
    } in
    rw plain whole

first_parts : (o : Option Field) (misread : Bool) → first_fault o misread ≡ None → (o ≡ None) × (misread ≡ false)
first_parts (Some f) misread h = absurd (cc)
first_parts None true h = absurd (cc)
first_parts None false h = (refl, refl)

by_taking : (b : Board) (new : List Incoming) (gs : List Gone) (i : Incoming) (taking : Bool) → takes b new gs i ≡ taking → is_linked i ≡ true → is_recurring i.task.status ≡ false
    → IsFit i.task → IsSound (entered b new taking i)
by_taking b new gs i true is linked other f =
    let both = taken_both b new gs i.raw_parent i.raw_imask is in
    sound_instance b new i both.0 both.1 other f
by_taking b new gs i false is linked other f = sound_orphan b new i linked other f

-- a task without a fault is sound on the board
pub sound_entered : (b : Board) (new : List Incoming) (gs : List Gone) (i : Incoming) → import_fault i ≡ None → IsSound (entered b new (takes b new gs i) i)
sound_entered b new gs i none =
    let parts = first_parts (fault_of i.task) (is_misread i) none in
    let fit = fit_if i.task parts.0 in
    let read = or_parts (if is_linked i then is_recurring i.task.status else is_misformed i) (nat_lt 16384 (length (unwrap_or i.raw_mask []))) parts.1 in
    elim (cases_Bool (is_linked i)) [
      | inl linked ↦
          let other : is_recurring i.task.status ≡ false = rw linked at read.0 in
          by_taking b new gs i (takes b new gs i) refl linked other fit
      | inr plain ↦
          let formed : is_misformed i ≡ false = rw plain at read.0 in
          rw (takes_none b new gs i plain) (sound_plain b new i plain formed fit)
    ]
