use Rattle.std.proofs.Common.{◌≡◌, [], drop}
use Rattle.tb_finding.specs.Order.{with_projects}
use Rattle.tb_finding.proofs.finding.projects_of.Given as goal

abbrev pub invariant-loop-task : goal.invariant-loop-task
invariant-loop-task l = with_projects l.projects (drop l.task-index l.tasks) ≡ with_projects [] l.tasks
