use Rattle.std.proofs.Common.{◌≡◌, ◌++◌, drop}
use Rattle.tb_finding.specs.Names.{all_names}
use Rattle.tb_finding.proofs.names.all_names.Given as goal

abbrev pub invariant-loop-key : goal.invariant-loop-key
invariant-loop-key l =
    l.names ++ all_names l.listing l.look (drop l.key-index l.keys) ≡ all_names l.listing l.look l.keys
