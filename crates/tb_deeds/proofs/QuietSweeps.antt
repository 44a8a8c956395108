-- A sweep by which no task wakes and no instance comes leaves the board, and the answer to a sweep tells what came.
use Rattle.std.proofs.Common.{◌≡◌, ℕ, zero, suc, ◌+◌, ◌-◌, ◌≤◌, false, List, [], ◌∷◌, length, map, nat_lt, Result, Ok, refl, sym, ◌∙◌, ap, arith, inl, inr, length-append}
use Rattle.std.specs.List.{list_any}
use Rattle.std.proofs.lemmas.Bool.{cases_Bool, ltb-false}
use Rattle.std.proofs.lemmas.List.{length-map}
use Rattle.tb_task.specs.declared.task.Task.{Task}
use Rattle.tb_task.specs.declared.status.Status.TheVariants.{Pending}
use Rattle.tb_task.specs.Checks.{is_recurring}
use Rattle.tb_recur.specs.Instances.{instance}
use Rattle.tb_board.specs.declared.board.Board.{Board}
use Rattle.tb_board.specs.Board.{wake, with_task}
use Rattle.tb_board.specs.Numbers.{free_id}
use Rattle.tb_board.specs.Tasks.{wakes, woken}
use Rattle.tb_board.specs.Templates.{count}
use Rattle.tb_board.proofs.Awake.{is_woken, not_woken}
use Rattle.tb_board.proofs.FirstWaits.{both, is_awake, neither}
use Rattle.tb_core.specs.declared.command.AnswerDetail.TheVariants.{Swept}
use Rattle.tb_core.specs.declared.command.BoardAnswer.{BoardAnswer}
use Rattle.tb_core.specs.declared.refusal.Refusal.{Refusal}
use Rattle.tb_sweep.specs.Sweeping.{added, batch, grown, grown_all, more, sweep, with_instances, with_wanted}
use Rattle.tb_sweep.proofs.Adding.{grown_last}
use Rattle.tb_deeds.specs.Laws.{QuietSweepsChangeNothing, SweepsTellWhatCame}

length-instances : (m : ℕ) (t : Task) (k n : ℕ) (b : Board) → length (with_instances m t k n b).tasks ≡ length b.tasks + n
length-instances m t k zero b = omega arith
length-instances m t k (suc n) b =
    let made = instance t k (free_id b) m in
    omega (arith, length-instances m t (k + 1) n (with_task b made), length-append b.tasks (made ∷ []))

-- a template by which no task comes leaves the board
grown_same : (m : ℕ) (b : Board) (t : Task) → length (grown m b t).tasks ≡ length b.tasks → grown m b t ≡ b
grown_same m b t same =
    elim (cases_Bool (is_recurring t.status)) [
      | inl recurring ↦
          let size : length (with_instances m t (count b t.id) (batch m b t) b).tasks ≡ length b.tasks = rw recurring at same in
          let none : batch m b t ≡ 0 = omega (arith, size, length-instances m t (count b t.id) (batch m b t) b) in
          rw (recurring, none) refl
      | inr other ↦ rw other refl
    ]

grown_more : (m : ℕ) (b : Board) (t : Task) → length b.tasks ≤ length (grown m b t).tasks
grown_more m b t =
    let new = grown_last m b t in
    let size : length (grown m b t).tasks ≡ length b.tasks + length new.0 = ap length new.1 ∙ length-append b.tasks new.0 in
    omega (arith, size)

all_more : (m : ℕ) (b : Board) (ts : List Task) → length b.tasks ≤ length (grown_all m b ts).tasks
all_more m b [] = omega arith
all_more m b (t ∷ ts) = omega (arith, grown_more m b t, all_more m (grown m b t) ts)

all_same : (m : ℕ) (b : Board) (ts : List Task) → length (grown_all m b ts).tasks ≡ length b.tasks → grown_all m b ts ≡ b
all_same m b [] same = refl
all_same m b (t ∷ ts) same =
    let here : length (grown m b t).tasks ≡ length b.tasks = omega (arith, same, grown_more m b t, all_more m (grown m b t) ts) in
    let first = grown_same m b t here in
    let rest : length (grown_all m b ts).tasks ≡ length b.tasks = ap (λ (c : Board). length (grown_all m c ts).tasks) (sym first) ∙ same in
    ap (λ (c : Board). grown_all m c ts) first ∙ all_same m b ts rest

pub quiet_sweep : QuietSweepsChangeNothing
quiet_sweep b m quiet =
    let parts = neither (list_any (wakes m) b.tasks) (nat_lt 0 (added b m)) quiet in
    let is : sweep b m ≡ with_wanted m b = ap (with_wanted m) (is_awake b m parts.0) in
    let few : added b m ≤ 0 = ltb-false 0 (added b m) parts.1 in
    let came : added b m ≡ length (with_wanted m b).tasks - length b.tasks = ap (λ (c : Board). length c.tasks - length b.tasks) is in
    let size : length (with_wanted m b).tasks ≡ length b.tasks = omega (arith, few, came, all_more m b b.tasks) in
    is ∙ all_same m b b.tasks size

-- ---- what is awake doesn't wake

pending_awake : (m : ℕ) (t : Task) → wakes m (record t { status = Pending }) ≡ false
unfolding wakes
pending_awake m t = refl

awake_woken : (m : ℕ) (t : Task) → wakes m (woken m t) ≡ false
awake_woken m t =
    elim (cases_Bool (wakes m t)) [
      | inl waits ↦ rw (is_woken m t waits) (pending_awake m t)
      | inr sleeps ↦ rw (not_woken m t sleeps) sleeps
    ]

none_wakes : (m : ℕ) (ts : List Task) → list_any (wakes m) (map (woken m) ts) ≡ false
none_wakes m [] = refl
none_wakes m (t ∷ ts) = both (wakes m (woken m t)) (list_any (wakes m) (map (woken m) ts)) (awake_woken m t) (none_wakes m ts)

sweep_awake : (b : Board) (m : ℕ) → sweep (wake b m) m ≡ sweep b m
sweep_awake b m = ap (with_wanted m) (is_awake (wake b m) m (none_wakes m b.tasks))

-- by the sweep of a board that was woken as many come as by the board's
added_awake : (b : Board) (m : ℕ) → added (wake b m) m ≡ added b m
added_awake b m =
    ap (λ (c : Board). length c.tasks - length (wake b m).tasks) (sweep_awake b m) ∙ ap (λ n. length (sweep b m).tasks - n) (length-map b.tasks (woken m))

abbrev outcome_of : Board → ℕ → Board → ℕ → Result (Board × BoardAnswer) Refusal
outcome_of b m later added = Ok (later, record { board = b.number; added = added; more = more later m; detail = Swept })

pub sweep_tells : SweepsTellWhatCame
sweep_tells b m = ap (λ (c : Board). outcome_of b m c (added (wake b m) m)) (sweep_awake b m) ∙ ap (outcome_of b m (sweep b m)) (added_awake b m)
