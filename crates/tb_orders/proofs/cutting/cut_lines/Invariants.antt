use Rattle.std.proofs.Common.{◌≡◌, map, drop}
use Rattle.tb_orders.specs.Cutting.{cut_on, uncut}
use Rattle.tb_orders.proofs.cutting.cut_lines.Given as goal

abbrev pub invariant-loop-line : goal.invariant-loop-line
invariant-loop-line l =
    cut_on l.kind l.cut (map (λ line. line.now) (drop l.line-index l.lines)) ≡ cut_on l.kind uncut (map (λ line. line.now) l.lines)
