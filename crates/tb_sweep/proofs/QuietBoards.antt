-- Quiet boards: the sweep leaves them, and a task that neither waits nor recurs leaves them quiet.
use Rattle.std.proofs.Common.{◌≡◌, ◌==◌, ◌+◌, ◌≤◌, ℕ, suc, zero, Bool, true, false, true≢false, ◌&&◌, List, [], ◌∷◌, ◌++◌, Option, Some, None, filter, length, get_or, nat_lt, set, refl, sym, ap, ◌∙◌, subst, inl, inr, arith, append_assoc, length-append}
use Rattle.std.specs.Prelude.{slice_get}
use Rattle.std.specs.List.{count_by, list_any}
use Rattle.std.proofs.lemmas.List.Sums.{length-filter}
use Rattle.std.proofs.lemmas.Bool.{cases_Bool, eqb-true, le-ltb, ltb-false}
use Rattle.tb_task.specs.declared.task.Task.{Task}
use Rattle.tb_task.specs.Checks.{is_recurring}
use Rattle.tb_board.specs.declared.board.Board.{Board}
use Rattle.tb_board.specs.declared.gone.Gone.{Gone}
use Rattle.tb_board.specs.Board.{with_task}
use Rattle.tb_board.specs.InstancePlaces.{instance_places}
use Rattle.tb_board.specs.Tasks.{wakes}
use Rattle.tb_board.specs.TemplateIndex.{HasPlace, HasRecurring}
use Rattle.tb_board.specs.Templates.{count, gone_places}
use Rattle.tb_board.proofs.FirstWaits.{both, is_awake, neither, none_push, none_set}
use Rattle.tb_board.proofs.Recurring.{places_last, set_places}
use Rattle.tb_sweep.specs.Quiet.{IsQuiet, is_one, lacks_at}
use Rattle.tb_sweep.specs.Sweeping.{added, lacks, more, need_of, sweep, with_wanted}
use Rattle.tb_sweep.proofs.Settled.{none_lack}

-- ---- a board is gone through by the places at which tasks recur

at_place : (test : ℕ → Bool) (places : List ℕ) (n : ℕ) → HasPlace places n → list_any test places ≡ false → test n ≡ false
at_place test [] n has none = absurd (true≢false (sym has))
at_place test (p ∷ ps) n has none =
    let parts = neither (test p) (list_any test ps) none in
    elim (cases_Bool (p == n)) [
      | inl here ↦ subst (λ k. test k ≡ false) (eqb-true p n here) parts.0
      | inr other ↦ let later : HasPlace ps n = rw other at has in at_place test ps n later parts.1
    ]

get_behind : (front : List Task) (t : Task) (ts : List Task) → slice_get (front ++ t ∷ ts) (length front) ≡ Some t
get_behind [] t ts = refl
get_behind (x ∷ xs) t ts = get_behind xs t ts

none_from : (b : Board) (m : ℕ) (front ts : List Task) (places : List ℕ) → b.tasks ≡ front ++ ts → HasRecurring (length front) ts places
    → list_any (lacks_at b m) places ≡ false → list_any (lacks b m) ts ≡ false
none_from b m front [] places is has none = refl
none_from b m front (t ∷ ts) places is has none =
    let here : slice_get b.tasks (length front) ≡ Some t = rw is (get_behind front t ts) in
    let next : length front + 1 ≡ length (front ++ t ∷ []) = omega (arith, length-append front (t ∷ [])) in
    let later = none_from b m (front ++ t ∷ []) ts places (is ∙ sym (append_assoc front (t ∷ []) ts)) (subst (λ n. HasRecurring n ts places) next has.1) none in
    both (lacks b m t) (list_any (lacks b m) ts) (elim (cases_Bool (is_recurring t.status)) [
      | inl recurs ↦ ap (is_one (lacks b m)) (sym here) ∙ at_place (lacks_at b m) places (length front) (has.0 recurs) none
      | inr other ↦ rw other refl
    ]) later

pub none_anywhere : (b : Board) (m : ℕ) (places : List ℕ) → HasRecurring 0 b.tasks places → list_any (lacks_at b m) places ≡ false → more b m ≡ false
none_anywhere b m places has none = none_from b m [] b.tasks places refl has none

passed_gone : (id : ℕ) (gs : List Gone) → length (filter (λ (g : Gone). g.template == id) gs) ≡ length (gone_places id gs)
passed_gone id [] = refl
passed_gone id (g ∷ gs) =
    elim (cases_Bool (g.template == id)) [
      | inl own ↦ rw own (ap suc (passed_gone id gs))
      | inr other ↦ rw other (passed_gone id gs)
    ]

pub gone_counted : (id : ℕ) (gs : List Gone) → count_by (λ (g : Gone). g.template == id) gs ≡ length (gone_places id gs)
gone_counted id gs = sym (length-filter (λ (g : Gone). g.template == id) gs) ∙ passed_gone id gs

-- ---- the sweep leaves a quiet board

pub sweep_quiet : (b : Board) (m : ℕ) → IsQuiet m b → sweep b m ≡ b
sweep_quiet b m quiet = ap (with_wanted m) (is_awake b m quiet.awake) ∙ none_lack m b b.tasks quiet.settled

pub added_quiet : (b : Board) (m : ℕ) → IsQuiet m b → added b m ≡ 0
added_quiet b m quiet = rw (sweep_quiet b m quiet) (omega arith)

pub more_quiet : (b : Board) (m : ℕ) → IsQuiet m b → more (sweep b m) m ≡ false
more_quiet b m quiet = rw (sweep_quiet b m quiet) quiet.settled

-- ---- a task that neither waits nor recurs leaves it quiet

none_too : (test other : Task → Bool) (ts : List Task) → ((t : Task) → test t ≡ false → other t ≡ false) → list_any test ts ≡ false → list_any other ts ≡ false
none_too test other [] also none = refl
none_too test other (t ∷ ts) also none =
    let parts = neither (test t) (list_any test ts) none in
    both (other t) (list_any other ts) (also t parts.0) (none_too test other ts also parts.1)

-- a template lacks no instance where it has as many places as before, or more
lacks_no_more : (b later : Board) (m : ℕ) (t : Task) → later.ahead ≡ b.ahead → count b t.id ≤ count later t.id → lacks b m t ≡ false → lacks later m t ≡ false
lacks_no_more b later m t ahead more none =
    elim (cases_Bool (is_recurring t.status)) [
      | inl recurs ↦
          let enough : nat_lt (count b t.id) (need_of t b.ahead m) ≡ false = rw recurs at none in
          rw (recurs, ahead) (le-ltb (count later t.id) (need_of t b.ahead m) (omega (arith, more, ltb-false (count b t.id) (need_of t b.ahead m) enough)))
      | inr other ↦ rw other refl
    ]

not_recurring : (b : Board) (m : ℕ) (t : Task) → is_recurring t.status ≡ false → lacks b m t ≡ false
not_recurring b m t other = rw other refl

set_count : (b : Board) (place : ℕ) (old new : Task) (id : ℕ) → old ≡ get_or b.tasks place old → new.parent ≡ old.parent → new.imask ≡ old.imask
    → count (record b { tasks = set b.tasks place new }) id ≡ count b id
set_count b place old new id is parent imask = ap (λ l. length (gone_places id b.gone ++ l)) (set_places id b.tasks place old new is parent imask)

push_count : (b : Board) (t : Task) (id : ℕ) → count b id ≤ count (with_task b t) id
push_count b t id =
    let gone = gone_places id b.gone in
    omega (arith, length-append gone (instance_places id (b.tasks ++ t ∷ [])), length-append gone (instance_places id b.tasks), places_last id b.tasks t)

pub quiet_set : (m : ℕ) (b : Board) (place : ℕ) (old new : Task) → old ≡ get_or b.tasks place old → new.parent ≡ old.parent → new.imask ≡ old.imask
    → wakes m new ≡ false → is_recurring new.status ≡ false → IsQuiet m b → IsQuiet m (record b { tasks = set b.tasks place new })
quiet_set m b place old new is parent imask sleeps plain quiet =
    let later : Board = record b { tasks = set b.tasks place new } in
    record {
      awake = none_set (wakes m) b.tasks place new quiet.awake sleeps;
      settled = none_set (lacks later m) b.tasks place new
          (none_too (lacks b m) (lacks later m) b.tasks (λ t none. lacks_no_more b later m t refl (omega (arith, set_count b place old new t.id is parent imask)) none) quiet.settled)
          (not_recurring later m new plain);
    }

pub quiet_push : (m : ℕ) (b : Board) (t : Task) → wakes m t ≡ false → is_recurring t.status ≡ false → IsQuiet m b → IsQuiet m (with_task b t)
quiet_push m b t sleeps plain quiet =
    let later = with_task b t in
    record {
      awake = none_push (wakes m) b.tasks t quiet.awake sleeps;
      settled = none_push (lacks later m) b.tasks t
          (none_too (lacks b m) (lacks later m) b.tasks (λ u none. lacks_no_more b later m u refl (push_count b t u.id) none) quiet.settled)
          (not_recurring later m t plain);
    }
