use Rattle.std.proofs.Common.{drop}
use Rattle.std.specs.List.{AllByRecursion}
use Rattle.tb_task.specs.Storable.{IsId}
use Rattle.tb_task.proofs.ranges.are_ids.Given as goal

-- if it holds of what is left, it holds of all
abbrev pub invariant-loop-id : goal.invariant-loop-id
invariant-loop-id l = AllByRecursion IsId (drop l.id-index l.ids) → AllByRecursion IsId l.ids
