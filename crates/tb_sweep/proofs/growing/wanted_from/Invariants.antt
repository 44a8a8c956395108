use Rattle.std.proofs.Common.{◌-◌, ◌≤◌}
use Rattle.tb_recur.specs.Wanting.{need}
use Rattle.tb_sweep.proofs.growing.wanted_from.Given as goal

-- those so far are wanted
abbrev pub invariant-loop-number : goal.invariant-loop-number
invariant-loop-number l =
    record {
      most : l.number ≤ l.most;
      wanted : l.number ≤ need l.plan l.ahead l.at - l.first;
    }

abbrev pub decreases-loop-number : goal.decreases-loop-number
decreases-loop-number l = l.most - l.number
