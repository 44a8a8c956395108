-- From when on a task wakes.
use Rattle.std.specs.Prelude.{ℕ, Bool, Option, None, if◌then◌else◌}
use Rattle.tb_task.specs.declared.status.Status.{Status}
use Rattle.tb_board.specs.Tasks.{has_come, is_waiting}
use Rattle.tb_board.specs.declared.first_wait.FirstWait.{FirstWait}

-- one of the tasks that were noted wakes at m
abbrev pub may_wake : ℕ → FirstWait → Bool
may_wake m first = has_come first.until m

-- the wait of a task that waits
abbrev pub open_wait : Status → Option ℕ → Option ℕ
open_wait status wait = if is_waiting status then wait else None
