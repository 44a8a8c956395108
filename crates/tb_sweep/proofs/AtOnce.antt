-- A board that looks one ahead is swept by the first text.
use Rattle.std.proofs.Common.{◌≡◌, ℕ, ◌-◌, min, ◌&&◌, ◌||◌, List, [], ◌∷◌, Option, Some, None, length, nat_lt, refl, ◌∙◌, ap, inl, inr}
use Rattle.std.specs.List.{list_any}
use Rattle.std.proofs.lemmas.Bool.{cases_Bool}
use Rattle.tb_task.specs.declared.task.Task.{Task}
use Rattle.tb_task.specs.Checks.{is_recurring}
use Rattle.tb_recur.specs.declared.plan.Plan.{Plan}
use Rattle.tb_recur.specs.Instances.{plan_of}
use Rattle.tb_recur.proofs.AtOnce.{need_same}
use Rattle.tb_board.specs.declared.board.Board.{Board}
use Rattle.tb_board.specs.Board.{wake}
use Rattle.tb_board.specs.Templates.{count}
use Rattle.tb_sweep.specs.AtOnce.{all_at_once, batch_at_once, grown_at_once, lacks_at_once, more_at_once, need_of_at_once, planned_at_once, sweep_at_once, OneAheadSweepsAtOnce}
use Rattle.tb_sweep.specs.Sweeping.{batch, grown, grown_all, lacks, more, need_of, planned_need, sweep, with_instances}
use Rattle.tb_sweep.proofs.Adding.{ahead-grown, ahead-sweep}

planned_same : (p : Option Plan) (m : ℕ) → planned_need p 1 m ≡ planned_at_once p m
planned_same None m = refl
planned_same (Some p) m = need_same p m

need_of_same : (b : Board) (m : ℕ) (t : Task) → b.ahead ≡ 1 → need_of t b.ahead m ≡ need_of_at_once t m
need_of_same b m t one = ap (λ ahead. need_of t ahead m) one ∙ planned_same (plan_of t) m

batch_same : (m : ℕ) (b : Board) (t : Task) → b.ahead ≡ 1 → batch m b t ≡ batch_at_once m b t
batch_same m b t one = ap (λ n. min (min 64 (10000 - length b.tasks)) (n - count b t.id)) (need_of_same b m t one)

grown_same : (m : ℕ) (b : Board) (t : Task) → b.ahead ≡ 1 → grown m b t ≡ grown_at_once m b t
grown_same m b t one =
    elim (cases_Bool (is_recurring t.status)) [
      | inl recurring ↦ rw recurring (ap (λ n. with_instances m t (count b t.id) n b) (batch_same m b t one))
      | inr other ↦ rw other refl
    ]

all_same : (m : ℕ) (b : Board) (ts : List Task) → b.ahead ≡ 1 → grown_all m b ts ≡ all_at_once m b ts
all_same m b [] one = refl
all_same m b (t ∷ ts) one = all_same m (grown m b t) ts (ahead-grown m b t ∙ one) ∙ ap (λ (c : Board). all_at_once m c ts) (grown_same m b t one)

pub sweep_same : (b : Board) (m : ℕ) → b.ahead ≡ 1 → sweep b m ≡ sweep_at_once b m
sweep_same b m one = all_same m (wake b m) (wake b m).tasks one

lacks_same : (b : Board) (m : ℕ) (t : Task) → b.ahead ≡ 1 → lacks b m t ≡ lacks_at_once b m t
lacks_same b m t one = ap (λ n. is_recurring t.status && nat_lt (count b t.id) n) (need_of_same b m t one)

some_lack_same : (b : Board) (m : ℕ) (ts : List Task) → b.ahead ≡ 1 → list_any (lacks b m) ts ≡ list_any (lacks_at_once b m) ts
some_lack_same b m [] one = refl
some_lack_same b m (t ∷ ts) one =
    ap (λ q. q || list_any (lacks b m) ts) (lacks_same b m t one) ∙ ap (λ q. lacks_at_once b m t || q) (some_lack_same b m ts one)

pub more_same : (b : Board) (m : ℕ) → b.ahead ≡ 1 → more (sweep b m) m ≡ more_at_once (sweep_at_once b m) m
more_same b m one =
    some_lack_same (sweep b m) m (sweep b m).tasks (ahead-sweep b m ∙ one) ∙ ap (λ (c : Board). more_at_once c m) (sweep_same b m one)

pub one_ahead_sweeps : OneAheadSweepsAtOnce
one_ahead_sweeps b m one = (sweep_same b m one, more_same b m one)
