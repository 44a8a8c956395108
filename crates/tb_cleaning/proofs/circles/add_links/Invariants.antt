use Rattle.std.proofs.Common.{◌≡◌, ◌++◌, [], get_or, set, take}
use Rattle.tb_cleaning.specs.Circles.{within}
use Rattle.tb_cleaning.proofs.circles.add_links.Given as goal

abbrev pub invariant-loop-place : goal.invariant-loop-place
invariant-loop-place l = l.graph ≡ set l.fn.graph l.from (get_or l.fn.graph l.from [] ++ within l.nodes (take l.place-index l.places))
