-- The steps by which instances are added.
use Rattle.std.proofs.Common.{◌≡◌, ℕ, zero, suc, ◌+◌, ◌<◌, ◌≤◌, true, false, List, [], ◌∷◌, ◌++◌, Option, Some, None, length, get_or, drop, drop-cons, append_assoc, refl, sym, ◌∙◌, ap, subst, arith, length-append, inl, inr, true≢false}
use Rattle.std.proofs.lemmas.Bool.{cases_Bool, le-ltb}
use Rattle.std.proofs.Math.Bool.{and-false}
use Rattle.std.specs.List.{list_any}
use Rattle.std.proofs.lemmas.List.{get_or_default, get_or_append_left, drop_all, append-nil, length-map}
use Rattle.tb_task.specs.declared.task.Task.{Task}
use Rattle.tb_recur.specs.declared.plan.Plan.{Plan}
use Rattle.tb_recur.specs.Instances.{plan_of, instance}
use Rattle.tb_recur.specs.Dues.{IsStep}
use Rattle.tb_recur.specs.Wanting.{wanted}
use Rattle.tb_recur.proofs.Needs.{need_few, wanted_need}
use Rattle.tb_board.specs.declared.board.Board.{Board}
use Rattle.tb_board.specs.Numbers.{free_id}
use Rattle.tb_board.specs.Templates.{count}
use Rattle.tb_sweep.specs.Sweeping.{planned_need, need_of, lacks, batch, with_instances, grown, grown_all, sweep, added, more}
use Rattle.tb_board.proofs.Awake.{stands_at}
use Rattle.tb_board.specs.Board.{wake, with_task}
use Rattle.tb_board.specs.Tasks.{woken}
use Rattle.tb_task.specs.Checks.{is_recurring}

-- a read within a list is the same at any default
pub read_at : (xs : List Task) (place : ℕ) (t u : Task) → place < length xs → t ≡ get_or xs place t → u ≡ get_or xs place u → t ≡ u
read_at xs place t u within is that = is ∙ get_or_default xs place t u within ∙ sym that

-- one more instance
pub added_one : (m : ℕ) (t u v : Task) (k left fewer id : ℕ) (b : Board) (x : Board) (k' : ℕ) → k' ≡ k + 1 → left ≡ suc fewer → u ≡ t → id ≡ free_id b → v ≡ instance u k id m
    → with_instances m t k left b ≡ x → with_instances m t k' fewer (with_task b v) ≡ x
added_one m t u v k left fewer id b x k' next more same number made h =
    let one : with_instances m t (k + 1) fewer (with_task b (instance t k (free_id b) m)) ≡ x = rw more at h in
    rw (next, made, same, number) one

-- tasks are put last alone
pub instances_last : (m : ℕ) (t : Task) (k n : ℕ) (b : Board) → (more : List Task) × ((with_instances m t k n b).tasks ≡ b.tasks ++ more)
instances_last m t k zero b = ([], sym (append-nil b.tasks))
instances_last m t k (suc n) b =
    let later = instances_last m t (k + 1) n (with_task b (instance t k (free_id b) m)) in
    (instance t k (free_id b) m ∷ later.0, later.1 ∙ append_assoc b.tasks (instance t k (free_id b) m ∷ []) later.0)

pub grown_last : (m : ℕ) (b : Board) (t : Task) → (more : List Task) × ((grown m b t).tasks ≡ b.tasks ++ more)
grown_last m b t =
    elim (cases_Bool (is_recurring t.status)) [
      | inl recurring ↦ rw recurring (instances_last m t (count b t.id) (batch m b t) b)
      | inr other ↦ rw other ([], sym (append-nil b.tasks))
    ]

planned_few : (p : Option Plan) (ahead m : ℕ) → planned_need p ahead m ≤ 2932898
planned_few None ahead m = omega arith
planned_few (Some p) ahead m = need_few p ahead m

-- a template with so many places gets none
pub batch_none : (m : ℕ) (b : Board) (t : Task) → 2932898 ≤ count b t.id → batch m b t ≡ 0
batch_none m b t many = omega (arith, many, planned_few (plan_of t) b.ahead m)

pub grown_none : (m : ℕ) (b : Board) (t u : Task) → u ≡ t → 2932898 ≤ count b u.id → b ≡ grown m b t
grown_none m b t u same many =
    let none : batch m b t ≡ 0 = batch_none m b t (subst (λ (v : Task). 2932898 ≤ count b v.id) same many) in
    elim (cases_Bool (is_recurring t.status)) [
      | inl recurring ↦ rw (recurring, none) refl
      | inr other ↦ rw other refl
    ]

pub grown_some : (m : ℕ) (b : Board) (t u : Task) (next number : ℕ) → u ≡ t → is_recurring u.status ≡ true → next ≡ count b u.id → number ≡ batch m b u
    → with_instances m t next number b ≡ grown m b t
grown_some m b t u next number same recurring is many =
    let here : is_recurring t.status ≡ true = subst (λ (v : Task). is_recurring v.status ≡ true) same recurring in
    rw (here, is, many, same) refl

pub grown_other : (m : ℕ) (b : Board) (t u : Task) → u ≡ t → is_recurring u.status ≡ false → b ≡ grown m b t
grown_other m b t u same other =
    let here : is_recurring t.status ≡ false = subst (λ (v : Task). is_recurring v.status ≡ false) same other in
    rw here refl

-- the fold's next task
pub fold_next : (m : ℕ) (b : Board) (ts : List Task) (i : ℕ) (t : Task) → i < length ts → grown_all m b (drop i ts) ≡ grown_all m (grown m b (get_or ts i t)) (drop (i + 1) ts)
fold_next m b ts i t within = let next : i + 1 ≡ suc i = omega arith in rw (drop-cons ts i t within, next) refl

pub fold_end : (m : ℕ) (b : Board) (ts : List Task) (i : ℕ) → length ts ≤ i → grown_all m b (drop i ts) ≡ b
fold_end m b ts i over = rw (drop_all i ts over) refl

-- the templates before place i have grown
pub record IsGrownTo (m : ℕ) (first b : Board) (i : ℕ) : Type 0 where
  pub size : length first.tasks ≤ length b.tasks
  pub front : (j : ℕ) (t : Task) → j < length first.tasks → get_or b.tasks j t ≡ get_or first.tasks j t
  pub rest : grown_all m b (drop i first.tasks) ≡ grown_all m first first.tasks

pub grown_begin : (m : ℕ) (b : Board) → IsGrownTo m b b 0
grown_begin m b = record { size = omega arith; front = λ j t within. refl; rest = refl }

pub grown_step : (m : ℕ) (first b b' : Board) (i : ℕ) → i < length first.tasks → IsGrownTo m first b i
    → ((t : Task) → t ≡ get_or b.tasks i t → b' ≡ grown m b t) → IsGrownTo m first b' (i + 1)
grown_step m first b b' i within so_far grows =
    let at = stands_at b.tasks i (omega (arith, within, so_far.size)) in
    let is : b' ≡ grown m b at.0 = grows at.0 at.1 in
    let last = grown_last m b at.0 in
    let tasks : b'.tasks ≡ b.tasks ++ last.0 = ap (λ (c : Board). c.tasks) is ∙ last.1 in
    let template : at.0 ≡ get_or first.tasks i at.0 = at.1 ∙ so_far.front i at.0 within in
    record {
      size = rw tasks (omega (arith, length-append b.tasks last.0, so_far.size));
      front = λ j t below. rw tasks (get_or_append_left b.tasks last.0 t j (omega (arith, below, so_far.size)) ∙ so_far.front j t below);
      rest = rw is (ap (λ (t : Task). grown_all m (grown m b t) (drop (i + 1) first.tasks)) template ∙ sym (fold_next m b first.tasks i at.0 within) ∙ so_far.rest);
    }

pub grown_end : (m : ℕ) (first b : Board) (i : ℕ) → length first.tasks ≤ i → IsGrownTo m first b i → b ≡ grown_all m first first.tasks
grown_end m first b i over so_far = sym (fold_end m b first.tasks i over) ∙ so_far.rest

-- a template lacks an instance where its next place is wanted
pub lacks_is : (b : Board) (m : ℕ) (t : Task) (p : Plan) (next ahead : ℕ) → is_recurring t.status ≡ true → Some p ≡ plan_of t → next ≡ count b t.id → b.ahead ≡ ahead
    → IsStep p.step → wanted p ahead next m ≡ lacks b m t
lacks_is b m t p next ahead recurring plan is looks step = rw (recurring, ← plan, wanted_need p ahead m next step, is, looks) refl

pub lacks_unplanned : (b : Board) (m : ℕ) (t : Task) → None ≡ plan_of t → false ≡ lacks b m t
lacks_unplanned b m t plan = rw (← plan, le-ltb (count b t.id) 0 (omega arith)) (sym (and-false (is_recurring t.status)))

pub lacks_none : (b : Board) (m : ℕ) (t : Task) → 2932898 ≤ count b t.id → false ≡ lacks b m t
lacks_none b m t many = rw (le-ltb (count b t.id) (need_of t b.ahead m) (omega (arith, many, planned_few (plan_of t) b.ahead m))) (sym (and-false (is_recurring t.status)))

-- without a template that recurs nothing is added, and nothing lacks
pub none_grown : (m : ℕ) (b : Board) (ts : List Task) → list_any (λ (t : Task). is_recurring t.status) ts ≡ false → grown_all m b ts ≡ b
none_grown m b [] none = refl
none_grown m b (t ∷ ts) none =
    elim (cases_Bool (is_recurring t.status)) [
      | inl here ↦ let wrong : true ≡ false = rw here at none in absurd (true≢false wrong)
      | inr other ↦ let rest : list_any (λ (u : Task). is_recurring u.status) ts ≡ false = rw other at none in rw other (none_grown m b ts rest)
    ]

pub none_lacks : (m : ℕ) (b : Board) (ts : List Task) → list_any (λ (t : Task). is_recurring t.status) ts ≡ false → list_any (lacks b m) ts ≡ false
none_lacks m b [] none = refl
none_lacks m b (t ∷ ts) none =
    elim (cases_Bool (is_recurring t.status)) [
      | inl here ↦ let wrong : true ≡ false = rw here at none in absurd (true≢false wrong)
      | inr other ↦ let rest : list_any (λ (u : Task). is_recurring u.status) ts ≡ false = rw other at none in rw other (none_lacks m b ts rest)
    ]

pub sweep_none : (b awake : Board) (m : ℕ) → awake ≡ wake b m → list_any (λ (t : Task). is_recurring t.status) awake.tasks ≡ false → sweep b m ≡ awake
sweep_none b awake m is none = let none' : list_any (λ (t : Task). is_recurring t.status) (wake b m).tasks ≡ false = rw is at none in none_grown m (wake b m) (wake b m).tasks none' ∙ sym is

pub added_none : (b awake : Board) (m : ℕ) → awake ≡ wake b m → list_any (λ (t : Task). is_recurring t.status) awake.tasks ≡ false → 0 ≡ added b m
added_none b awake m is none =
    rw (sweep_none b awake m is none, is) (omega (arith, length-map b.tasks (woken m)))

pub more_none : (b awake : Board) (m : ℕ) → awake ≡ wake b m → list_any (λ (t : Task). is_recurring t.status) awake.tasks ≡ false → false ≡ more (sweep b m) m
more_none b awake m is none = rw (sweep_none b awake m is none) (sym (none_lacks m awake awake.tasks none))

pub id-instance : (t : Task) (k n m : ℕ) → (instance t k n m).id ≡ n
unfolding instance
id-instance t k n m = refl

number-instances : (m : ℕ) (t : Task) (k n : ℕ) (b : Board) → (with_instances m t k n b).number ≡ b.number
number-instances m t k zero b = refl
number-instances m t k (suc n) b = number-instances m t (k + 1) n (with_task b (instance t k (free_id b) m))

number-grown : (m : ℕ) (b : Board) (t : Task) → (grown m b t).number ≡ b.number
number-grown m b t =
    elim (cases_Bool (is_recurring t.status)) [
      | inl recurring ↦ rw recurring (number-instances m t (count b t.id) (batch m b t) b)
      | inr other ↦ rw other refl
    ]

number-all : (m : ℕ) (b : Board) (ts : List Task) → (grown_all m b ts).number ≡ b.number
number-all m b [] = refl
number-all m b (t ∷ ts) = number-all m (grown m b t) ts ∙ number-grown m b t

-- the sweep keeps the board's number
pub number-sweep : (b : Board) (m : ℕ) → (sweep b m).number ≡ b.number
number-sweep b m = number-all m (wake b m) (wake b m).tasks

ahead-instances : (m : ℕ) (t : Task) (k n : ℕ) (b : Board) → (with_instances m t k n b).ahead ≡ b.ahead
ahead-instances m t k zero b = refl
ahead-instances m t k (suc n) b = ahead-instances m t (k + 1) n (with_task b (instance t k (free_id b) m))

pub ahead-grown : (m : ℕ) (b : Board) (t : Task) → (grown m b t).ahead ≡ b.ahead
ahead-grown m b t =
    elim (cases_Bool (is_recurring t.status)) [
      | inl recurring ↦ rw recurring (ahead-instances m t (count b t.id) (batch m b t) b)
      | inr other ↦ rw other refl
    ]

ahead-all : (m : ℕ) (b : Board) (ts : List Task) → (grown_all m b ts).ahead ≡ b.ahead
ahead-all m b [] = refl
ahead-all m b (t ∷ ts) = ahead-all m (grown m b t) ts ∙ ahead-grown m b t

-- the board looks as far ahead as before
pub ahead-sweep : (b : Board) (m : ℕ) → (sweep b m).ahead ≡ b.ahead
ahead-sweep b m = ahead-all m (wake b m) (wake b m).tasks
