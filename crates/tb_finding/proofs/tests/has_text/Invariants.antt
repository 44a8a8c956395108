use Rattle.std.proofs.Common.{◌≡◌, drop}
use Rattle.tb_finding.specs.Tests.{has_text}
use Rattle.tb_finding.proofs.tests.has_text.Given as goal

abbrev pub invariant-loop-other : goal.invariant-loop-other
invariant-loop-other l = has_text l.text (drop l.other-index l.texts) ≡ has_text l.text l.texts
