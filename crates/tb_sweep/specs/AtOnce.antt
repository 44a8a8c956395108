-- The sweep of a board that doesn't look ahead: the first text, which the newer one has where the board looks one ahead.
use Rattle.std.specs.Prelude.{◌≡◌, ℕ, ◌-◌, min, Bool, ◌&&◌, List, [], ◌∷◌, Option, Some, None, if◌then◌else◌, length, nat_lt}
use Rattle.std.specs.List.{list_any}
use Rattle.tb_task.specs.declared.task.Task.{Task}
use Rattle.tb_task.specs.Checks.{is_recurring}
use Rattle.tb_recur.specs.declared.plan.Plan.{Plan}
use Rattle.tb_recur.specs.AtOnce.{need_at_once}
use Rattle.tb_recur.specs.Instances.{plan_of}
use Rattle.tb_board.specs.declared.board.Board.{Board}
use Rattle.tb_board.specs.Board.{wake}
use Rattle.tb_board.specs.Templates.{count}
use Rattle.tb_sweep.specs.Sweeping.{more, sweep, with_instances}
use Rattle.tb_task.specs.Limits.{most_at_once, most_tasks}

-- the least place that isn't wanted by a template at m
abbrev pub planned_at_once : Option Plan → ℕ → ℕ
planned_at_once None m = 0
planned_at_once (Some p) m = need_at_once p m

abbrev pub need_of_at_once : Task → ℕ → ℕ
need_of_at_once t m = planned_at_once (plan_of t) m

-- how many instances a template gets: those it needs beyond its count, but so many at once at most and no more than there is room for
abbrev pub batch_at_once : ℕ → Board → Task → ℕ
batch_at_once m b t =
    min (min most_at_once (most_tasks - length b.tasks)) (need_of_at_once t m - count b t.id)

-- a template that recurs gets its instances
abbrev pub grown_at_once : ℕ → Board → Task → Board
grown_at_once m b t = if is_recurring t.status
    then with_instances m t (count b t.id) (batch_at_once m b t) b else b

-- the templates among these tasks get their instances, in order
abbrev pub all_at_once : ℕ → Board → List Task → Board
all_at_once m b [] = b
all_at_once m b (t ∷ ts) = all_at_once m (grown_at_once m b t) ts

-- the board at a moment: awake, and with the instances that are wanted
abbrev pub sweep_at_once : Board → ℕ → Board
sweep_at_once b m = all_at_once m (wake b m) (wake b m).tasks

-- how many instances the sweep adds
abbrev pub added_at_once : Board → ℕ → ℕ
added_at_once b m = length (sweep_at_once b m).tasks - length b.tasks

-- a template that recurs has fewer places than it needs
abbrev pub lacks_at_once : Board → ℕ → Task → Bool
lacks_at_once b m t = is_recurring t.status && nat_lt (count b t.id) (need_of_at_once t m)

-- a template still has fewer places than it needs
abbrev pub more_at_once : Board → ℕ → Bool
more_at_once b m = list_any (lacks_at_once b m) b.tasks

-- a board that looks one ahead is swept by the first text
abbrev pub OneAheadSweepsAtOnce : Type 0
OneAheadSweepsAtOnce = (b : Board) (m : ℕ) → b.ahead ≡ 1
    → (sweep b m ≡ sweep_at_once b m) × (more (sweep b m) m ≡ more_at_once (sweep_at_once b m) m)
