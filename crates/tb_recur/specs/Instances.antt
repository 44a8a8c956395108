-- The instances of a template.
use Rattle.std.specs.Prelude.{ℕ, ◌+◌, ◌-◌, List, Option, Some, None, if◌then◌else◌, nat_lt}
use Rattle.tb_task.specs.declared.task.Task.{Task}
use Rattle.tb_task.specs.declared.status.Status.{Status}
use Rattle.tb_task.specs.declared.status.Status.TheVariants.{Pending, Waiting}
use Rattle.tb_task.specs.declared.step.Step.{Step}
use Rattle.tb_task.specs.Step.{step_of}
use Rattle.tb_recur.specs.declared.plan.Plan.{Plan}
use Rattle.tb_recur.specs.Dues.{if_moment, due}

-- the step that a task's text writes, if it has one
abbrev pub read_recur : Option (List ℕ) → Option Step
read_recur None = None
read_recur (Some text) = step_of text

abbrev pub plan_from : Option ℕ → Option Step → Option ℕ → Option Plan
plan_from (Some d) (Some s) until = Some (record { due = d; step = s; until = until })
plan_from (Some d) None until = None
plan_from None s until = None

-- when the instances of a task with a due and a readable step are due
abbrev pub plan_of : Task → Option Plan
plan_of t = plan_from t.due (read_recur t.recur) t.until

abbrev pub planned_due : Option Plan → ℕ → Option ℕ
planned_due None k = None
planned_due (Some p) k = due p.due p.step k

-- how much later the second is
abbrev pub seconds_between : Option ℕ → Option ℕ → ℕ
seconds_between (Some d) (Some x) = x - d
seconds_between (Some d) None = 0
seconds_between None x = 0

-- later by so many seconds, and left out past the last moment
abbrev pub moved : ℕ → Option ℕ → Option ℕ
moved by None = None
moved by (Some x) = if_moment (x + by)

-- waiting where the wait is after m, else pending
abbrev pub settled : Option ℕ → ℕ → Status
settled None m = Pending
settled (Some wait) m = if nat_lt m wait then Waiting else Pending

abbrev pub due_of : Task → ℕ → Option ℕ
due_of t k = planned_due (plan_of t) k

-- how much later instance k is than its template
abbrev pub delay_of : Task → ℕ → ℕ
delay_of t k = seconds_between t.due (due_of t k)

-- instance k of t under this identifier, made at m
-- Rule: an instance copies its template as it stands at the sweep. Tried by recurrences.
unfoldable pub instance : Task → ℕ → ℕ → ℕ → Task
instance t k id m =
    record t {
      id = id;
      status = settled (moved (delay_of t k) t.wait) m;
      entry = m;
      modified = Some m;
      start = None;
      end = None;
      due = due_of t k;
      wait = moved (delay_of t k) t.wait;
      scheduled = moved (delay_of t k) t.scheduled;
      parent = Some t.id;
      imask = Some k;
    }
