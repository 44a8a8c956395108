use Rattle.std.proofs.Common.{◌≡◌, drop}
use Rattle.tb_finding.specs.Tests.{passes_all}
use Rattle.tb_finding.proofs.tests.passes_all.Given as goal

abbrev pub invariant-loop-wanted : goal.invariant-loop-wanted
invariant-loop-wanted l =
    passes_all l.clock l.is_blocked l.task (drop l.wanted-index l.tests) ≡ passes_all l.clock l.is_blocked l.task l.tests
