use Rattle.std.proofs.Common.{◌≡◌, drop}
use Rattle.tb_finding.specs.Showing.{named_from}
use Rattle.tb_finding.proofs.showing.named_from.Given as goal

abbrev pub invariant-loop-place : goal.invariant-loop-place
invariant-loop-place l = named_from l.id l.place (drop l.place l.tasks) ≡ named_from l.id 0 l.tasks
