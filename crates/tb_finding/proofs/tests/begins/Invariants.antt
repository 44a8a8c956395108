use Rattle.std.proofs.Common.{◌≡◌, drop}
use Rattle.tb_finding.specs.Tests.{begins}
use Rattle.tb_finding.proofs.tests.begins.Given as goal

abbrev pub invariant-loop-index : goal.invariant-loop-index
invariant-loop-index l = begins (drop l.index l.part) (drop l.index l.text) ≡ begins l.part l.text
