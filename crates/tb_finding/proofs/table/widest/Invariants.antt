use Rattle.std.proofs.Common.{◌≡◌, drop}
use Rattle.tb_finding.specs.Table.{no_widths, widest}
use Rattle.tb_finding.proofs.table.widest.Given as goal

abbrev pub invariant-loop-one : goal.invariant-loop-one
invariant-loop-one l = widest l.widths (drop l.one-index l.cells) ≡ widest no_widths l.cells
