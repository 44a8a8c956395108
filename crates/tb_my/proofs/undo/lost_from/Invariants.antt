use Rattle.std.proofs.Common.{◌≡◌, ◌++◌, drop, map}
use Rattle.tb_my.specs.Undo.{lost_from}
use Rattle.tb_my.proofs.undo.lost_from.Given as goal

abbrev pub invariant-loop-line : goal.invariant-loop-line
invariant-loop-line l =
    l.lost ++ lost_from (map (λ line. line.now) (drop l.line-index l.lines))
    ≡ lost_from (map (λ line. line.now) l.lines)
