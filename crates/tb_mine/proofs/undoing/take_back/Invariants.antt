use Rattle.std.proofs.Common.{take}
use Rattle.tb_mine.proofs.Following.{Going}
use Rattle.tb_mine.specs.Printed.{told_line}
use Rattle.tb_mine.proofs.undoing.take_back.Given as goal

-- so many were asked for
abbrev pub invariant-loop-sent : goal.invariant-loop-sent
invariant-loop-sent g l =
    Going g.A.Asks.follows told_line (take l.sent-index l.all) l.are_accepted (g.W.Write.contents l.fn.writer) (g.W.Write.contents l.writer) l.fn.asks l.asks
