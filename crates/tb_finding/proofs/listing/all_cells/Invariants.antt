use Rattle.std.proofs.Common.{◌≡◌, ◌++◌, drop}
use Rattle.tb_finding.specs.Listing.{all_cells}
use Rattle.tb_finding.proofs.listing.all_cells.Given as goal

-- the cells so far and those that are left are all
abbrev pub invariant-loop-key : goal.invariant-loop-key
invariant-loop-key l =
    l.cells ++ all_cells l.clock l.style l.look (drop l.key-index l.keys)
    ≡ all_cells l.clock l.style l.look l.keys
