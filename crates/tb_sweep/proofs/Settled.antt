-- A board that is swept is awake, and where no template lacks an instance another sweep leaves it.
use Rattle.std.proofs.Common.{◌≡◌, ℕ, zero, suc, ◌+◌, ◌≤◌, true, false, ◌&&◌, List, [], ◌∷◌, ◌++◌, Option, Some, None, length, map, nat_lt, refl, sym, ◌∙◌, ap, arith, inl, inr, length-append, append_assoc, true≢false}
use Rattle.std.specs.List.{AllByRecursion, list_any}
use Rattle.std.proofs.lemmas.Bool.{cases_Bool, ltb-true, ltb-false, lt-leb}
use Rattle.std.proofs.lemmas.List.{append-nil, length-map}
use Rattle.tb_task.specs.declared.task.Task.{Task}
use Rattle.tb_task.specs.Checks.{is_recurring}
use Rattle.tb_task.specs.declared.status.Status.TheVariants.{Pending}
use Rattle.tb_recur.specs.Instances.{delay_of, instance, moved, settled}
use Rattle.tb_board.specs.declared.board.Board.{Board}
use Rattle.tb_board.specs.Board.{wake, with_task}
use Rattle.tb_board.specs.Tasks.{has_come, is_waiting, wakes, woken}
use Rattle.tb_board.specs.Numbers.{free_id}
use Rattle.tb_board.specs.Templates.{count}
use Rattle.tb_board.proofs.Awake.{not_woken, is_woken}
use Rattle.tb_board.proofs.Goodness.{all_push}
use Rattle.tb_sweep.specs.Kept.{SweepAddsLast, SweepEnds}
use Rattle.tb_sweep.specs.Sweeping.{batch, grown, grown_all, lacks, need_of, sweep, with_instances}
use Rattle.tb_sweep.proofs.Adding.{grown_last}

all_last : (m : ℕ) (b : Board) (ts : List Task) → (new : List Task) × ((grown_all m b ts).tasks ≡ b.tasks ++ new)
all_last m b [] = ([], sym (append-nil b.tasks))
all_last m b (t ∷ ts) =
    let first = grown_last m b t in
    let later = all_last m (grown m b t) ts in
    (first.0 ++ later.0, later.1 ∙ ap (λ us. us ++ later.0) first.1 ∙ append_assoc b.tasks first.0 later.0)

pub adds_last : SweepAddsLast
adds_last b m =
    let new = all_last m (wake b m) (wake b m).tasks in
    let size : length (sweep b m).tasks ≡ length (wake b m).tasks + length new.0 = ap length new.1 ∙ length-append (wake b m).tasks new.0 in
    (new.0, new.1, omega (arith, size, length-map b.tasks (woken m)))

pending_awake : (m : ℕ) (t : Task) → wakes m (record t { status = Pending }) ≡ false
unfolding wakes
pending_awake m t = refl

awake_woken : (m : ℕ) (t : Task) → wakes m (woken m t) ≡ false
awake_woken m t =
    elim (cases_Bool (wakes m t)) [
      | inl waits ↦ rw (is_woken m t waits) (pending_awake m t)
      | inr sleeps ↦ rw (not_woken m t sleeps) sleeps
    ]

awake_settled : (wait : Option ℕ) (m : ℕ) → (is_waiting (settled wait m) && has_come wait m) ≡ false
awake_settled None m = refl
awake_settled (Some wait) m =
    elim (cases_Bool (nat_lt m wait)) [
      | inl later ↦ rw (later, lt-leb wait m (ltb-true m wait later)) refl
      | inr over ↦ rw over refl
    ]

awake_instance : (m : ℕ) (t : Task) (k n : ℕ) → wakes m (instance t k n m) ≡ false
unfolding wakes instance
awake_instance m t k n = awake_settled (moved (delay_of t k) t.wait) m

abbrev IsAwake : ℕ → Task → Type 0
IsAwake m t = wakes m t ≡ false

awake_wake : (m : ℕ) (ts : List Task) → AllByRecursion (IsAwake m) (map (woken m) ts)
awake_wake m [] = tt
awake_wake m (t ∷ ts) = (awake_woken m t, awake_wake m ts)

awake_instances : (m : ℕ) (t : Task) (k n : ℕ) (b : Board) → AllByRecursion (IsAwake m) b.tasks → AllByRecursion (IsAwake m) (with_instances m t k n b).tasks
awake_instances m t k zero b awake = awake
awake_instances m t k (suc n) b awake =
    let made = instance t k (free_id b) m in
    awake_instances m t (k + 1) n (with_task b made) (all_push (IsAwake m) b.tasks made awake (awake_instance m t k (free_id b)))

awake_grown : (m : ℕ) (b : Board) (t : Task) → AllByRecursion (IsAwake m) b.tasks → AllByRecursion (IsAwake m) (grown m b t).tasks
awake_grown m b t awake =
    elim (cases_Bool (is_recurring t.status)) [
      | inl recurring ↦ rw recurring (awake_instances m t (count b t.id) (batch m b t) b awake)
      | inr other ↦ rw other awake
    ]

awake_all : (m : ℕ) (b : Board) (ts : List Task) → AllByRecursion (IsAwake m) b.tasks → AllByRecursion (IsAwake m) (grown_all m b ts).tasks
awake_all m b [] awake = awake
awake_all m b (t ∷ ts) awake = awake_all m (grown m b t) ts (awake_grown m b t awake)

stays_awake : (m : ℕ) (ts : List Task) → AllByRecursion (IsAwake m) ts → map (woken m) ts ≡ ts
stays_awake m [] awake = refl
stays_awake m (t ∷ ts) awake = rw (not_woken m t awake.0, stays_awake m ts awake.1) refl

-- where no template lacks an instance none is added
none_lacking : (m : ℕ) (b : Board) (t : Task) → lacks b m t ≡ false → grown m b t ≡ b
none_lacking m b t none =
    elim (cases_Bool (is_recurring t.status)) [
      | inl recurring ↦
          let enough : nat_lt (count b t.id) (need_of t b.ahead m) ≡ false = rw recurring at none in
          let no_more : batch m b t ≡ 0 = omega (arith, ltb-false (count b t.id) (need_of t b.ahead m) enough) in
          rw (recurring, no_more) refl
      | inr other ↦ rw other refl
    ]

pub none_lack : (m : ℕ) (b : Board) (ts : List Task) → list_any (lacks b m) ts ≡ false → grown_all m b ts ≡ b
none_lack m b [] none = refl
none_lack m b (t ∷ ts) none =
    elim (cases_Bool (lacks b m t)) [
      | inl here ↦ let wrong : true ≡ false = rw here at none in absurd (true≢false wrong)
      | inr other ↦
          let rest : list_any (lacks b m) ts ≡ false = rw other at none in
          ap (λ (c : Board). grown_all m c ts) (none_lacking m b t other) ∙ none_lack m b ts rest
    ]

-- a board that is swept is awake
pub wake_swept : (b : Board) (m : ℕ) → wake (sweep b m) m ≡ sweep b m
wake_swept b m =
    let awake = awake_all m (wake b m) (wake b m).tasks (awake_wake m b.tasks) in
    ap (λ ts. record (sweep b m) { tasks = ts }) (stays_awake m (sweep b m).tasks awake)

pub sweep_ends : SweepEnds
sweep_ends b m none =
    let later = sweep b m in
    ap (λ (c : Board). grown_all m c c.tasks) (wake_swept b m) ∙ none_lack m later later.tasks none

length-instances : (m : ℕ) (t : Task) (k n : ℕ) (b : Board) → length (with_instances m t k n b).tasks ≡ length b.tasks + n
length-instances m t k zero b = omega arith
length-instances m t k (suc n) b =
    let made = instance t k (free_id b) m in
    omega (arith, length-instances m t (k + 1) n (with_task b made), length-append b.tasks (made ∷ []))

fits_grown : (m : ℕ) (b : Board) (t : Task) → length b.tasks ≤ 10000 → length (grown m b t).tasks ≤ 10000
fits_grown m b t fits =
    elim (cases_Bool (is_recurring t.status)) [
      | inl recurring ↦ rw recurring (omega (arith, fits, length-instances m t (count b t.id) (batch m b t) b))
      | inr other ↦ rw other fits
    ]

fits_all : (m : ℕ) (b : Board) (ts : List Task) → length b.tasks ≤ 10000 → length (grown_all m b ts).tasks ≤ 10000
fits_all m b [] fits = fits
fits_all m b (t ∷ ts) fits = fits_all m (grown m b t) ts (fits_grown m b t fits)

-- the sweep stops where the board is full
pub sweep_fits : (b : Board) (m : ℕ) → length b.tasks ≤ 10000 → length (sweep b m).tasks ≤ 10000
sweep_fits b m fits = fits_all m (wake b m) (wake b m).tasks (omega (arith, fits, length-map b.tasks (woken m)))
