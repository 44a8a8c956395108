use Rattle.std.proofs.Common.{◌≡◌, drop}
use Rattle.tb_finding.specs.Showing.{number_from}
use Rattle.tb_finding.proofs.showing.number_from.Given as goal

abbrev pub invariant-loop-place : goal.invariant-loop-place
invariant-loop-place l = number_from l.id l.place (drop l.place l.tasks) ≡ number_from l.id 0 l.tasks
