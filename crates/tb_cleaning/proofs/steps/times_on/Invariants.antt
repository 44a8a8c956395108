use Rattle.std.proofs.Common.{◌≡◌, ◌≤◌, drop}
use Rattle.tb_cleaning.specs.Steps.{times_on}
use Rattle.tb_cleaning.proofs.steps.times_on.Given as goal

abbrev pub invariant-loop-byte : goal.invariant-loop-byte
invariant-loop-byte l =
    record {
      rest : times_on l.times (drop l.byte-index l.text) ≡ times_on 0 l.text;
      limit : l.times ≤ 1000;
    }
