use Rattle.std.proofs.Common.{◌≡◌, drop, map}
use Rattle.tb_orders.specs.Lists.{are_items}
use Rattle.tb_orders.proofs.lists.are_items.Given as goal

abbrev pub invariant-loop-line : goal.invariant-loop-line
invariant-loop-line l =
    are_items (map (λ line. line.now) (drop l.line-index l.lines)) ≡ are_items (map (λ line. line.now) l.lines)
