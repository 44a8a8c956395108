-- Waking leaves a sound task sound.
use Rattle.std.proofs.Common.{◌≡◌, ℕ, ◌&&◌, ◌||◌, Bool, true, false, not, Some, None, is_some, refl, sym, ◌∙◌, true≢false, inl, inr, if◌then◌else◌}
use Rattle.std.specs.List.{list_any}
use Rattle.std.proofs.lemmas.Bool.{cases_Bool}
use Rattle.tb_task.specs.declared.checks.Field.TheVariants.{EmptyDescription, BadTag, BadText, BadPair}
use Rattle.tb_task.specs.declared.status.Status.{Status}
use Rattle.tb_task.specs.declared.status.Status.TheVariants.{Pending, Waiting, Recurring, Completed, Deleted}
use Rattle.tb_task.specs.declared.task.Task.{Task}
use Rattle.tb_task.specs.Checks.{fault_of, has_bad_pair, has_bad_recurrence, has_bad_text, has_half_link, has_known_name, is_bad_tag, is_empty, is_recurring, is_step}
use Rattle.tb_board.specs.Tasks.{has_come, is_waiting, wakes, woken}
use Rattle.tb_board.specs.Good.{has_template_form, is_deleted, IsSound}
use Rattle.tb_board.specs.Statuses.{is_pending_or_waiting, is_template}

-- what is well with a task that a board takes
pub record IsFit (t : Task) : Type 0 where
  pub filled : is_empty t.description ≡ false
  pub tags : list_any is_bad_tag t.tags ≡ false
  pub texts : has_bad_text t ≡ false
  pub recurrence : has_bad_recurrence t ≡ false
  pub link : has_half_link t ≡ false
  pub names : list_any has_known_name t.extras ≡ false

record FourFalse (a b c d : Bool) : Type 0 where
  first : a ≡ false
  second : b ≡ false
  third : c ≡ false
  fourth : d ≡ false

four_false : (a b c d : Bool)
    → (if a then Some EmptyDescription else if b then Some BadTag else if c then Some BadText else if d then Some BadPair else None) ≡ None
    → FourFalse a b c d
four_false true b c d h = absurd (cc)
four_false false true c d h = absurd (cc)
four_false false false true d h = absurd (cc)
four_false false false false true h = absurd (cc)
four_false false false false false h = record { first = refl; second = refl; third = refl; fourth = refl }

record ThreeFalse (a b c : Bool) : Type 0 where
  first : a ≡ false
  second : b ≡ false
  third : c ≡ false

three_false : (a b c : Bool) → (a || b || c) ≡ false → ThreeFalse a b c
three_false true b c h = absurd (true≢false h)
three_false false true c h = absurd (true≢false h)
three_false false false true h = absurd (true≢false h)
three_false false false false h = record { first = refl; second = refl; third = refl }

pub fit_if : (t : Task) → fault_of t ≡ None → IsFit t
unfolding fault_of has_bad_pair
fit_if t h =
    let four = four_false (is_empty t.description) (list_any is_bad_tag t.tags) (has_bad_text t) (has_bad_pair t) h in
    let three = three_false (has_bad_recurrence t) (has_half_link t) (list_any has_known_name t.extras) four.fourth in
    record { filled = four.first; tags = four.second; texts = four.third; recurrence = three.first; link = three.second; names = three.third }

pub taken_if : (t : Task) → IsFit t → fault_of t ≡ None
unfolding fault_of has_bad_pair
taken_if t f = rw (f.filled, f.tags, f.texts, f.recurrence, f.link, f.names) refl

pub and_true : (p q : Bool) → (p && q) ≡ true → (p ≡ true) × (q ≡ true)
and_true true q h = (refl, h)
and_true false q h = absurd (true≢false (sym h))

pub not_true : (p : Bool) → not p ≡ true → p ≡ false
not_true false h = refl
not_true true h = absurd (true≢false (sym h))

-- a task that is pending or waiting is no template
open_plain : (s : Status) → is_pending_or_waiting s ≡ true → (is_recurring s || is_deleted s) ≡ false
open_plain Pending h = refl
open_plain Waiting h = refl
open_plain Recurring h = absurd (true≢false (sym h))
open_plain Completed h = absurd (true≢false (sym h))
open_plain Deleted h = absurd (true≢false (sym h))

pub no_template : (t : Task) → is_pending_or_waiting t.status ≡ true → has_template_form t ≡ true → is_template t ≡ false
no_template t h form =
    elim (cases_Bool (is_template t)) [
      | inl template ↦
          let whole : ((is_recurring t.status || is_deleted t.status) && (is_some t.due && is_step t.recur)) ≡ true = rw template at form in
          let standing = and_true (is_recurring t.status || is_deleted t.status) (is_some t.due && is_step t.recur) whole in
          absurd (true≢false (sym standing.0 ∙ open_plain t.status h))
      | inr plain ↦ plain
    ]

waits_plain : (s : Status) → is_waiting s ≡ true → is_pending_or_waiting s ≡ true
waits_plain Pending h = refl
waits_plain Waiting h = refl
waits_plain Recurring h = absurd (true≢false (sym h))
waits_plain Completed h = absurd (true≢false (sym h))
waits_plain Deleted h = absurd (true≢false (sym h))

wakes_waiting : (m : ℕ) (t : Task) → wakes m t ≡ true → is_pending_or_waiting t.status ≡ true
unfolding wakes
wakes_waiting m t h = waits_plain t.status (and_true (is_waiting t.status) (has_come t.wait m) h).0

fit_pending : (t : Task) → IsFit t → IsFit (record t { status = Pending })
unfolding has_bad_text has_bad_recurrence
fit_pending t f = record { filled = f.filled; tags = f.tags; texts = f.texts; recurrence = refl; link = f.link; names = f.names }

sound_pending : (t : Task) → is_pending_or_waiting t.status ≡ true → IsSound t → IsSound (record t { status = Pending })
sound_pending t h s = record { taken = taken_if _ (fit_pending t (fit_if t s.taken)); template = rw (no_template t h s.template) refl }

pub sound_woken : (m : ℕ) (t : Task) → IsSound t → IsSound (woken m t)
sound_woken m t s =
    elim (cases_Bool (wakes m t)) [
      | inl wakes ↦ rw wakes (sound_pending t (wakes_waiting m t wakes) s)
      | inr sleeps ↦ rw sleeps s
    ]
