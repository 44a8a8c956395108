use Rattle.std.proofs.Common.{◌≡◌, ◌++◌, drop, map}
use Rattle.tb_my.specs.Undo.{undone_from}
use Rattle.tb_my.proofs.undo.undone_from.Given as goal

abbrev pub invariant-loop-line : goal.invariant-loop-line
invariant-loop-line l =
    l.sent ++ undone_from (map (λ line. line.now) (drop l.line-index l.lines))
    ≡ undone_from (map (λ line. line.now) l.lines)
