-- How actions change where a task stands.
use Rattle.std.specs.Prelude.{ℕ, Some, None, if◌then◌else◌}
use Rattle.tb_task.specs.declared.status.Status.{Status}
use Rattle.tb_task.specs.declared.status.Status.TheVariants.{Recurring, Completed, Deleted}
use Rattle.tb_task.specs.declared.task.Task.{Task}
use Rattle.tb_board.specs.Statuses.{is_template, settled}

abbrev pub completed : ℕ → Task → Task
completed m t = record t { status = Completed; end = Some m; start = None; modified = Some m }

abbrev pub deleted : ℕ → Task → Task
deleted m t = record t { status = Deleted; end = Some m; start = None; modified = Some m }

-- a template recurs again, and another task is settled
-- Rule: a template that is reopened recurs again. Tried by no test.
abbrev pub reopened_status : ℕ → Task → Status
reopened_status m t = if is_template t then Recurring else settled t.wait m

abbrev pub reopened : ℕ → Task → Task
reopened m t = record t { status = reopened_status m t; end = None; modified = Some m }

abbrev pub started : ℕ → Task → Task
started m t = record t { start = Some m; modified = Some m }

abbrev pub stopped : ℕ → Task → Task
stopped m t = record t { start = None; modified = Some m }
