-- Where a task stands.
use Rattle.std.specs.Prelude.{ℕ, Bool, true, false, not, ◌&&◌, Option, Some, None, is_some, if◌then◌else◌, nat_lt}
use Rattle.tb_task.specs.declared.status.Status.{Status}
use Rattle.tb_task.specs.declared.status.Status.TheVariants.{Pending, Waiting, Recurring, Completed, Deleted}
use Rattle.tb_task.specs.declared.task.Task.{Task}

abbrev pub is_pending : Status → Bool
is_pending Pending = true
is_pending Waiting = false
is_pending Recurring = false
is_pending Completed = false
is_pending Deleted = false

abbrev pub is_pending_or_waiting : Status → Bool
is_pending_or_waiting Pending = true
is_pending_or_waiting Waiting = true
is_pending_or_waiting Recurring = false
is_pending_or_waiting Completed = false
is_pending_or_waiting Deleted = false

-- pending, waiting or recurring
abbrev pub is_open : Status → Bool
is_open Pending = true
is_open Waiting = true
is_open Recurring = true
is_open Completed = false
is_open Deleted = false

-- a task that recurs and is no instance of another one
abbrev pub is_template : Task → Bool
is_template t = is_some t.recur && not (is_some t.parent)

-- waiting where the wait is after m, and else pending
-- Rule: wait alone tells waiting from pending. Tried by waiting_until.
abbrev pub settled : Option ℕ → ℕ → Status
settled None m = Pending
settled (Some wait) m = if nat_lt m wait then Waiting else Pending
