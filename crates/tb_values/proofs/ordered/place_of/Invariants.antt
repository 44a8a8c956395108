use Rattle.std.proofs.Common.{◌≤◌, length}
use Rattle.tb_values.specs.Ordered.{place_in}
use Rattle.tb_values.proofs.ordered.place_of.Given as goal

-- the place is no later than the one reached
abbrev pub invariant-loop-place : goal.invariant-loop-place
invariant-loop-place g l = record {
  within : l.place ≤ length l.items;
  reached : place_in g.T.Keyed.order l.items l.item ≤ l.place;
}

abbrev pub decreases-loop-place : goal.decreases-loop-place
decreases-loop-place g l = l.place
