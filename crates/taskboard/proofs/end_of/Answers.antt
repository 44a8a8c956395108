use Rattle.std.proofs.Common.{rules, refl}
use Rattle.taskboard.specs.Orders.{IsNamed}
use Rattle.taskboard.proofs.Handed.{named_same}
use Rattle.taskboard.proofs.end_of.Goals.{in-Send, in_default}
use Rattle.taskboard.proofs.end_of.Goals as goal

pub returns-clause-left : goal.returns-clause-left
returns-clause-left g c =
    let named : IsNamed c.args.order c.match-order.order =
    elim c.match-order.branch [
      | in-Send w ↦ let others = w.name_call.ensures.others in search rules
      | in_default w ↦ let same = named_same c.args.order in search rules
    ] in (c.match-order.order, named, c.in-Err.failed, refl, c.in-Err.ensures.left)

pub returns-clause-fault : goal.returns-clause-fault
returns-clause-fault g c = elim c.match-order.branch [ in-Send w ↦ search rules | in_default w ↦ search rules ]
