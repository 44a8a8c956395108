use Rattle.std.proofs.Common.{take}
use Rattle.tb_mine.proofs.Following.{Going}
use Rattle.tb_mine.specs.Printed.{printed_of}
use Rattle.tb_mine.proofs.sending.ask_all.Given as goal

-- so many were asked for
abbrev pub invariant-loop-sent : goal.invariant-loop-sent
invariant-loop-sent g l =
    Going g.A.Asks.follows (printed_of l.context.clock l.tasks) (take l.sent-index l.all) l.are_accepted (g.W.Write.contents l.fn.writer) (g.W.Write.contents l.writer) l.fn.asks l.asks
