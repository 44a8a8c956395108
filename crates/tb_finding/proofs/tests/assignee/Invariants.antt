use Rattle.std.proofs.Common.{◌≡◌, drop}
use Rattle.tb_finding.specs.Tests.{assignee}
use Rattle.tb_finding.proofs.tests.assignee.Given as goal

abbrev pub invariant-loop-extra : goal.invariant-loop-extra
invariant-loop-extra l = assignee (drop l.extra-index l.extras) ≡ assignee l.extras
