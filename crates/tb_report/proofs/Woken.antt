-- The urgency of a task of a board that wakes.
use Rattle.std.proofs.Common.{◌≡◌, ℕ, zero, suc, ◌+◌, ◌-◌, ◌*◌, ◌<◌, Bool, true, false, not, ◌&&◌, List, [], ◌∷◌, Some, length, get_or, map, refl, sym, ◌∙◌, ap, arith, inl, inr}
use Rattle.std.specs.Prelude.{pos, ◌-ℤ◌}
use Rattle.std.specs.List.{range_with_len, slice_get}
use Rattle.std.specs.Option.{option_map}
use Rattle.std.proofs.lemmas.Bool.{cases_Bool}
use Rattle.std.proofs.lemmas.List.{length-map}
use Rattle.tb_task.specs.declared.task.Task.{Task}
use Rattle.tb_task.specs.declared.status.Status.{Status}
use Rattle.tb_task.specs.declared.status.Status.TheVariants.{Pending, Waiting, Recurring, Completed, Deleted}
use Rattle.tb_graph.specs.Blocked.{is_blocked}
use Rattle.tb_graph.specs.Marks.{is_marked}
use Rattle.tb_graph.proofs.Leading.{and_parts}
use Rattle.tb_board.specs.declared.board.Board.{Board}
use Rattle.tb_board.specs.Blocked.{are_open, blocked, blocking, is_blocking}
use Rattle.tb_board.specs.Board.{wake}
use Rattle.tb_board.specs.Tasks.{has_come, ids, is_waiting, status_at, wakes, woken}
use Rattle.tb_board.specs.Links.{depends_of, links, places_in}
use Rattle.tb_board.specs.Statuses.{is_open}
use Rattle.tb_board.proofs.Goodness.{depends-wake, ids-wake}
use Rattle.tb_report.specs.Row.{unit}
use Rattle.tb_report.specs.Urgencies.{is_waiting_now, own_parts, parts_if, urgency_at, urgency_awake, urgency_of}

open_if_waiting : (s : Status) → is_waiting s ≡ true → is_open s ≡ true
open_if_waiting Waiting h = refl
open_if_waiting Pending h = refl
open_if_waiting Recurring h = refl
open_if_waiting Completed h = h
open_if_waiting Deleted h = h

waits_if_wakes : (m : ℕ) (t : Task) → wakes m t ≡ true → is_waiting t.status ≡ true
unfolding wakes
waits_if_wakes m t h = (and_parts (is_waiting t.status) (has_come t.wait m) h).0

open-woken : (m : ℕ) (t : Task) → is_open (status_at m t) ≡ is_open t.status
open-woken m t =
    elim (cases_Bool (wakes m t)) [
      | inl woke ↦ rw woke (sym (open_if_waiting t.status (waits_if_wakes m t woke)))
      | inr sleeps ↦ rw sleeps refl
    ]

open-wake : (m : ℕ) (ts : List Task) → are_open (map (woken m) ts) ≡ are_open ts
open-wake m [] = refl
open-wake m (t ∷ ts) = ap (λ x. x ∷ are_open (map (woken m) ts)) (open-woken m t) ∙ ap (λ xs. is_open t.status ∷ xs) (open-wake m ts)

links-wake : (b : Board) (m : ℕ) → links (wake b m) ≡ links b
unfolding links
links-wake b m = ap (λ is. map (places_in is) (depends_of (map (woken m) b.tasks))) (ids-wake m b.tasks) ∙ ap (map (places_in (ids b.tasks))) (depends-wake m b.tasks)

size-wake : (b : Board) (m : ℕ) → length (map (woken m) b.tasks) ≡ length b.tasks
size-wake b m = length-map b.tasks (woken m)

-- waking leaves what is blocked and what is blocking
blocked-wake : (b : Board) (m : ℕ) → blocked (wake b m) ≡ blocked b
blocked-wake b m =
    ap (λ g. map (is_blocked g (are_open (map (woken m) b.tasks))) (range_with_len 0 (length (map (woken m) b.tasks)))) (links-wake b m)
    ∙ ap (λ open_tasks. map (is_blocked (links b) open_tasks) (range_with_len 0 (length (map (woken m) b.tasks)))) (open-wake m b.tasks)
    ∙ ap (λ n. map (is_blocked (links b) (are_open b.tasks)) (range_with_len 0 n)) (size-wake b m)

blocking-wake : (b : Board) (m : ℕ) → blocking (wake b m) ≡ blocking b
blocking-wake b m =
    ap (λ g. map (is_blocking g (are_open (map (woken m) b.tasks))) (range_with_len 0 (length (map (woken m) b.tasks)))) (links-wake b m)
    ∙ ap (λ open_tasks. map (is_blocking (links b) open_tasks) (range_with_len 0 (length (map (woken m) b.tasks)))) (open-wake m b.tasks)
    ∙ ap (λ n. map (is_blocking (links b) (are_open b.tasks)) (range_with_len 0 n)) (size-wake b m)

woken_at : (m : ℕ) (ts : List Task) (k : ℕ) (t : Task) → k < length ts → t ≡ get_or ts k t → slice_get (map (woken m) ts) k ≡ Some (woken m t)
woken_at m [] k t within is = absurd (omega arith)
woken_at m (u ∷ us) zero t within is = ap (λ v. Some (woken m v)) (sym is)
woken_at m (u ∷ us) (suc k) t within is = woken_at m us k t (omega arith) is

-- a place's urgency is that of its task, which wakes, by what is blocked and blocking already
pub urgency-woken : (b : Board) (m place k : ℕ) (t : Task) → place ≡ k + 1 → k < length b.tasks → t ≡ get_or b.tasks k t
    → urgency_at b m place ≡ Some (urgency_of (is_marked (blocked b) k) (is_marked (blocking b) k) m (woken m t))
urgency-woken b m place k t next within is =
    let index : place - 1 ≡ k = omega (arith, next) in
    ap (λ i. option_map (urgency_awake (wake b m) m i) (slice_get (map (woken m) b.tasks) i)) index
    ∙ ap (option_map (urgency_awake (wake b m) m k)) (woken_at m b.tasks k t within is)
    ∙ ap (λ marks. Some (urgency_of (is_marked marks k) (is_marked (blocking (wake b m)) k) m (woken m t))) (blocked-wake b m)
    ∙ ap (λ marks. Some (urgency_of (is_marked (blocked b) k) (is_marked marks k) m (woken m t))) (blocking-wake b m)

waiting-woken : (m : ℕ) (t : Task) → is_waiting_now (status_at m t) ≡ (is_waiting_now t.status && not (wakes m t))
waiting-woken m t =
    elim (cases_Bool (wakes m t)) [
      | inl woke ↦ rw woke (shut (is_waiting_now t.status))
      | inr sleeps ↦ rw sleeps (kept (is_waiting_now t.status))
    ]
  where
    shut : (p : Bool) → false ≡ (p && false)
    shut true = refl
    shut false = refl

    kept : (p : Bool) → p ≡ (p && true)
    kept true = refl
    kept false = refl

-- a task that wakes waits no more, and nothing else of its urgency changes
pub sum-woken : (is_blocked is_blocking : Bool) (m : ℕ) (t : Task)
    → urgency_of is_blocked is_blocking m (woken m t)
    ≡ (pos (own_parts m t + parts_if is_blocking (8 * unit)) -ℤ pos (parts_if (is_waiting_now t.status && not (wakes m t)) (3 * unit) + parts_if is_blocked (5 * unit)))
unfolding urgency_of own_parts
sum-woken is_blocked is_blocking m t =
    ap (λ waits. pos (own_parts m t + parts_if is_blocking (8 * unit)) -ℤ pos (parts_if waits (3 * unit) + parts_if is_blocked (5 * unit))) (waiting-woken m t)
