use Rattle.std.proofs.Common.{◌≡◌, ◌++◌, drop}
use Rattle.tb_report.specs.Lists.{ranks_from}
use Rattle.tb_report.specs.Marked.{waits_in}
use Rattle.tb_report.proofs.lists.ranks_of.Given as goal

-- the ranks so far and those of the tasks that are left are all
abbrev pub invariant-loop-place : goal.invariant-loop-place
invariant-loop-place l = l.ranks.items ++ ranks_from (waits_in l.waits.blocked.items l.waits.blocking.items) l.at l.place (drop l.place l.tasks) ≡ ranks_from (waits_in l.waits.blocked.items l.waits.blocking.items) l.at 0 l.tasks
