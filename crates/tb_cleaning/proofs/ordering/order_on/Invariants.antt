use Rattle.std.proofs.Common.{◌≡◌, [], drop}
use Rattle.tb_cleaning.specs.Ordering.{order_on}
use Rattle.tb_cleaning.proofs.ordering.order_on.Given as goal

abbrev pub invariant-loop-one : goal.invariant-loop-one
invariant-loop-one l = order_on l.waits l.templates l.order l.done (drop l.one-index l.waits) ≡ order_on l.waits l.templates [] l.fn.done l.waits
