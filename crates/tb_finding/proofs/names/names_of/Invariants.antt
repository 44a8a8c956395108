use Rattle.std.proofs.Common.{◌≡◌, [], drop}
use Rattle.tb_values.specs.Texts.{with_texts}
use Rattle.tb_finding.proofs.names.names_of.Given as goal

abbrev pub invariant-loop-name : goal.invariant-loop-name
invariant-loop-name l = with_texts l.names (drop l.name-index l.all) ≡ with_texts [] l.all
