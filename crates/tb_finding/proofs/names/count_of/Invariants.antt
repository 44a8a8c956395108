use Rattle.std.proofs.Common.{◌≡◌, ◌+◌, ◌≤◌, drop}
use Rattle.tb_finding.specs.Names.{count_of}
use Rattle.tb_finding.proofs.names.count_of.Given as goal

abbrev pub invariant-loop-other : goal.invariant-loop-other
invariant-loop-other l = record {
  counted : l.count + count_of l.name (drop l.other-index l.all) ≡ count_of l.name l.all;
  most : l.count ≤ l.other-index;
}
