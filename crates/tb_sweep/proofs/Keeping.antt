-- The sweep leaves a good board good.
use Rattle.std.proofs.Common.{◌≡◌, ℕ, zero, suc, ◌+◌, ◌-◌, ◌<◌, ◌≤◌, ◌==◌, ◌||◌, Bool, true, false, is_some, List, [], ◌∷◌, Option, Some, None, length, nat_lt, refl, sym, ◌∙◌, ap, arith, inl, inr, length-append, true≢false}
use Rattle.std.specs.Cmp.{nat_eq_equiv}
use Rattle.std.specs.List.{AllByRecursion, list_any}
use Rattle.std.proofs.lemmas.List.{append-nil}
use Rattle.std.proofs.lemmas.Bool.{cases_Bool, eqb-true}
use Rattle.tb_task.specs.declared.task.Task.{Task}
use Rattle.tb_task.specs.Checks.{has_bad_recurrence, has_bad_text, is_recurring}
use Rattle.tb_recur.specs.Instances.{delay_of, instance, moved, settled}
use Rattle.tb_board.specs.declared.board.Board.{Board}
use Rattle.tb_board.specs.Board.{is_on, lacks_depends, wake, with_task}
use Rattle.tb_board.specs.Good.{has_template_form, IsGood, IsLinkedOn, IsSound}
use Rattle.tb_board.specs.Numbers.{free_id}
use Rattle.tb_board.specs.Instances.{has_template, is_template_with, HasRuns}
use Rattle.tb_board.specs.Statuses.{is_template}
use Rattle.tb_board.specs.Templates.{count, places}
use Rattle.tb_board.proofs.Runs.{places-push, run_push, templates-more}
use Rattle.tb_sweep.proofs.Counting.{count-own, place-other, place-own}
use Rattle.tb_board.proofs.Fits.{IsFit, fit_if, taken_if}
use Rattle.tb_board.proofs.Fresh.{fresh}
use Rattle.tb_board.proofs.Goodness.{good-push, good-wake, lacks-more, linked-more}
use Rattle.tb_sweep.specs.Kept.{SweepKeepsGood}
use Rattle.tb_sweep.specs.Sweeping.{batch, grown, grown_all, with_instances}
use Rattle.tb_sweep.proofs.Adding.{id-instance}

settled_plain : (wait : Option ℕ) (m : ℕ) → is_recurring (settled wait m) ≡ false
settled_plain None m = refl
settled_plain (Some wait) m =
    elim (cases_Bool (nat_lt m wait)) [
      | inl later ↦ rw later refl
      | inr over ↦ rw over refl
    ]

fit_instance : (t : Task) (k n m : ℕ) → IsFit t → IsFit (instance t k n m)
unfolding instance has_bad_text has_bad_recurrence
fit_instance t k n m f =
    record {
      filled = f.filled;
      tags = f.tags;
      texts = f.texts;
      recurrence = rw (settled_plain (moved (delay_of t k) t.wait) m) refl;
      link = refl;
      names = f.names;
    }

-- an instance has a parent, and doesn't recur
form_instance : (t : Task) (k n m : ℕ) → has_template_form (instance t k n m) ≡ true
unfolding instance
form_instance t k n m =
    rw (settled_plain (moved (delay_of t k) t.wait) m) (elim (cases_Bool (is_some t.recur)) [
      | inl recurs ↦ rw recurs refl
      | inr once ↦ rw once refl
    ])

sound_instance : (t : Task) (k n m : ℕ) → IsSound t → IsSound (instance t k n m)
sound_instance t k n m s = record { taken = taken_if _ (fit_instance t k n m (fit_if t s.taken)); template = form_instance t k n m }

-- it depends on what its template depends on
depends-instance : (t : Task) (k n m : ℕ) → (instance t k n m).depends ≡ t.depends
unfolding instance
depends-instance t k n m = refl

parent-instance : (t : Task) (k n m : ℕ) → (instance t k n m).parent ≡ Some t.id
unfolding instance
parent-instance t k n m = refl

-- an instance at the next place
runs-instance : (b : Board) (t : Task) (k n m : ℕ) → k ≡ count b t.id → HasRuns b → HasRuns (with_task b (instance t k n m))
runs-instance b t k n m next runs id =
    elim (cases_Bool (t.id == id)) [
      | inl own ↦
          let same : t.id ≡ id = eqb-true t.id id own in
          let is : k ≡ length (places b id) = next ∙ ap (count b) same in
          rw (places-push b id (instance t k n m), place-own t k n m id own, is) (run_push (places b id) (runs id))
      | inr other ↦ rw (places-push b id (instance t k n m), place-other t k n m id other, append-nil (places b id)) (runs id)
    ]

-- where it recurs, it is a template among the tasks
abbrev IsTemplateIn : List Task → Task → Type 0
IsTemplateIn ts u = is_recurring u.status ≡ true → list_any (is_template_with u.id) ts ≡ true

recurs_template : (t : Task) → is_recurring t.status ≡ true → has_template_form t ≡ true → is_template t ≡ true
recurs_template t recurring form =
    elim (cases_Bool (is_template t)) [
      | inl template ↦ template
      | inr plain ↦ let wrong : false ≡ true = rw (plain, recurring) at form in absurd (true≢false (sym wrong))
    ]

own_template : (t : Task) → IsSound t → is_recurring t.status ≡ true → is_template_with t.id t ≡ true
own_template t sound recurring = rw (nat_eq_equiv.refl t.id) (recurs_template t recurring sound.template)

or_first : (p q : Bool) → p ≡ true → (p || q) ≡ true
or_first true q h = refl
or_first false q h = absurd (true≢false (sym h))

or_second : (p q : Bool) → q ≡ true → (p || q) ≡ true
or_second true q h = refl
or_second false q h = h

own_templates : (whole us : List Task) → ((p : Task → Bool) → list_any p us ≡ true → list_any p whole ≡ true) → AllByRecursion IsSound us → AllByRecursion (IsTemplateIn whole) us
own_templates whole [] inside sound = tt
own_templates whole (u ∷ us) inside sound = (
  λ recurring. inside (is_template_with u.id) (or_first (is_template_with u.id u) (list_any (is_template_with u.id) us) (own_template u sound.0 recurring)),
  own_templates whole us (λ p h. inside p (or_second (p u) (list_any p us) h)) sound.1,
)

own_templates-more : (b : Board) (t : Task) (us : List Task) → AllByRecursion (IsTemplateIn b.tasks) us → AllByRecursion (IsTemplateIn (with_task b t).tasks) us
own_templates-more b t [] h = tt
own_templates-more b t (u ∷ us) h = (λ recurring. templates-more b t u.id (h.0 recurring), own_templates-more b t us h.1)

-- a good board, on which the links of these tasks stay
record Kept (b : Board) (us : List Task) : Type 0 where
  good : IsGood b
  linked : AllByRecursion (IsLinkedOn b) us
  templates : AllByRecursion (IsTemplateIn b.tasks) us

-- what holds of the template that gets instances
record IsGrowable (b : Board) (t : Task) : Type 0 where
  sound : IsSound t
  linked : IsLinkedOn b t
  template : list_any (is_template_with t.id) b.tasks ≡ true

kept_one : (m : ℕ) (t : Task) (k : ℕ) (b : Board) (us : List Task) → IsGrowable b t → k ≡ count b t.id → length b.tasks < 10000 → Kept b us
    → Kept (with_task b (instance t k (free_id b) m)) us
kept_one m t k b us grows next room kept =
    let made = instance t k (free_id b) m in
    record {
      good = good-push b made kept.good room (ap (is_on b) (id-instance t k (free_id b) m) ∙ fresh b) (sound_instance t k (free_id b) m grows.sound)
          (ap (lacks_depends b) (depends-instance t k (free_id b) m) ∙ grows.linked) (runs-instance b t k (free_id b) m next kept.good.runs)
          (ap (has_template b) (parent-instance t k (free_id b) m) ∙ grows.template);
      linked = linked-more b made us kept.linked;
      templates = own_templates-more b made us kept.templates;
    }

kept_instances : (m : ℕ) (t : Task) (k n : ℕ) (b : Board) (us : List Task) → IsGrowable b t → k ≡ count b t.id → n ≤ 10000 - length b.tasks → Kept b us
    → Kept (with_instances m t k n b) us
kept_instances m t k zero b us grows next room kept = kept
kept_instances m t k (suc n) b us grows next room kept =
    let made = instance t k (free_id b) m in
    kept_instances m t (k + 1) n (with_task b made) us
    (record { sound = grows.sound; linked = lacks-more b made t.depends grows.linked; template = templates-more b made t.id grows.template })
    (ap (λ i. i + 1) next ∙ sym (count-own b t k (free_id b) m t.id (nat_eq_equiv.refl t.id)))
    (omega (arith, room, length-append b.tasks (made ∷ [])))
    (kept_one m t k b us grows next (omega (arith, room)) kept)

kept_grown : (m : ℕ) (b : Board) (t : Task) (us : List Task) → IsSound t → IsLinkedOn b t → IsTemplateIn b.tasks t → Kept b us → Kept (grown m b t) us
kept_grown m b t us sound linked template kept =
    elim (cases_Bool (is_recurring t.status)) [
      | inl recurring ↦
          rw recurring (kept_instances m t (count b t.id) (batch m b t) b us (record { sound = sound; linked = linked; template = template recurring }) refl (omega arith) kept)
      | inr other ↦ rw other kept
    ]

kept_all : (m : ℕ) (b : Board) (us : List Task) → AllByRecursion IsSound us → Kept b us → IsGood (grown_all m b us)
kept_all m b [] sound kept = kept.good
kept_all m b (t ∷ ts) sound kept =
    kept_all m (grown m b t) ts sound.1
    (kept_grown m b t ts sound.0 kept.linked.0 kept.templates.0 (record { good = kept.good; linked = kept.linked.1; templates = kept.templates.1 }))

pub sweep_kept : SweepKeepsGood
sweep_kept b m good =
    let awake = good-wake b m good in
    let ts = (wake b m).tasks in
    kept_all m (wake b m) ts awake.sound (record { good = awake; linked = awake.linked; templates = own_templates ts ts (λ p h. h) awake.sound })
