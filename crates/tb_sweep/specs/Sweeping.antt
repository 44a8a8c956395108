-- The instances that a board adds by a moment.
use Rattle.std.specs.Prelude.{ℕ, zero, suc, ◌+◌, ◌-◌, min, Bool, ◌&&◌, List, [], ◌∷◌, Option, Some, None, if◌then◌else◌, length, nat_lt}
use Rattle.std.specs.List.{list_any}
use Rattle.tb_task.specs.declared.task.Task.{Task}
use Rattle.tb_task.specs.Checks.{is_recurring}
use Rattle.tb_recur.specs.declared.plan.Plan.{Plan}
use Rattle.tb_recur.specs.Instances.{plan_of, instance}
use Rattle.tb_recur.specs.Wanting.{need}
use Rattle.tb_board.specs.declared.board.Board.{Board}
use Rattle.tb_board.specs.Board.{wake, with_task}
use Rattle.tb_board.specs.Numbers.{free_id}
use Rattle.tb_board.specs.Templates.{count}
use Rattle.tb_task.specs.Limits.{most_at_once, most_tasks}

-- the least place that isn't wanted by a template at m on a board that looks so many ahead
abbrev pub planned_need : Option Plan → ℕ → ℕ → ℕ
planned_need None ahead m = 0
planned_need (Some p) ahead m = need p ahead m

abbrev pub need_of : Task → ℕ → ℕ → ℕ
need_of t ahead m = planned_need (plan_of t) ahead m

-- how many instances a template gets: those it needs beyond its count, but so many at once at most and no more than there is room for
-- Rule: a sweep fills a board at most. Tried by full_board_has_no_room_for_instances.
abbrev pub batch : ℕ → Board → Task → ℕ
batch m b t = min (min most_at_once (most_tasks - length b.tasks))
    (need_of t b.ahead m - count b t.id)

-- the instances from k on, so many, one after the other, each under the least free number
-- Rule: instances go last, under the least free numbers. Tried by instances_of_a_template.
abbrev pub with_instances : ℕ → Task → ℕ → ℕ → Board → Board
with_instances m t k zero b = b
with_instances m t k (suc more) b =
    with_instances m t (k + 1) more (with_task b (instance t k (free_id b) m))

-- a template that recurs gets its instances
-- Rule: a deleted template gets no more instances. Tried by no test.
abbrev pub grown : ℕ → Board → Task → Board
grown m b t = if is_recurring t.status then with_instances m t (count b t.id) (batch m b t) b else b

-- the templates among these tasks get their instances, in order
abbrev pub grown_all : ℕ → Board → List Task → Board
grown_all m b [] = b
grown_all m b (t ∷ ts) = grown_all m (grown m b t) ts

-- a board that is awake, with the instances that are wanted
abbrev pub with_wanted : ℕ → Board → Board
with_wanted m b = grown_all m b b.tasks

-- the board at a moment: awake, and with the instances that are wanted
abbrev pub sweep : Board → ℕ → Board
sweep b m = with_wanted m (wake b m)

-- how many instances the sweep adds
abbrev pub added : Board → ℕ → ℕ
added b m = length (sweep b m).tasks - length b.tasks

-- a template that recurs has fewer places than it needs
abbrev pub lacks : Board → ℕ → Task → Bool
lacks b m t = is_recurring t.status && nat_lt (count b t.id) (need_of t b.ahead m)

-- a template still has fewer places than it needs
abbrev pub more : Board → ℕ → Bool
more b m = list_any (lacks b m) b.tasks
