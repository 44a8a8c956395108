use Rattle.std.proofs.Common.{◌≤◌, length, drop}
use Rattle.tb_cleaning.specs.Places.{AreFirsts}
use Rattle.tb_cleaning.proofs.ids.firsts_of.Given as goal

abbrev pub invariant-loop-place : goal.invariant-loop-place
invariant-loop-place l =
    record {
      inside : l.place ≤ length l.ids;
      firsts : AreFirsts l.place (drop l.place l.ids) l.firsts;
    }

abbrev pub decreases-loop-place : goal.decreases-loop-place
decreases-loop-place l = l.place
