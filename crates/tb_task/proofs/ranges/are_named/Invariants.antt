use Rattle.std.proofs.Common.{drop}
use Rattle.std.specs.List.{AllByRecursion}
use Rattle.tb_task.specs.Ranges.{IsNamedExtra}
use Rattle.tb_task.proofs.ranges.are_named.Given as goal

-- if it holds of what is left, it holds of all
abbrev pub invariant-loop-extra : goal.invariant-loop-extra
invariant-loop-extra l = AllByRecursion IsNamedExtra (drop l.extra-index l.extras) → AllByRecursion IsNamedExtra l.extras
