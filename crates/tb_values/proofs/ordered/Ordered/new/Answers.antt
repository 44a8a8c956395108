use Rattle.std.proofs.Common.{sym, subst}
use Rattle.std.specs.List.Sorted.{IsStrictlySortedBy}
use Rattle.tb_values.proofs.Places.{sorted-none}
use Rattle.tb_values.proofs.ordered.Ordered.new.Goals as goal

pub invariant_of-result : goal.invariant_of-result
invariant_of-result g c = subst (IsStrictlySortedBy g.T.Keyed.order) (sym c.new.ensures.items) (sorted-none g.T.Keyed.order)
