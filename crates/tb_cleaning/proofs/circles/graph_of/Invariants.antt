use Rattle.std.proofs.Common.{◌≡◌, ◌++◌, ◌-◌, ◌≤◌, [], length, map, replicate, take}
use Rattle.tb_cleaning.specs.Circles.{within}
use Rattle.tb_cleaning.proofs.circles.graph_of.Given as goal

abbrev pub invariant-loop-from : goal.invariant-loop-from
invariant-loop-from l =
    record {
      inside : l.from ≤ length l.links;
      links : l.graph ≡ map (within (length l.links)) (take l.from l.links) ++ replicate (length l.links - l.from) [];
    }
