use Rattle.std.proofs.Common.{◌≡◌, drop}
use Rattle.tb_finding.specs.Tests.{contains}
use Rattle.tb_finding.proofs.tests.contains.Given as goal

abbrev pub invariant-loop-start : goal.invariant-loop-start
invariant-loop-start l = contains l.part (drop l.start l.text) ≡ contains l.part l.text
