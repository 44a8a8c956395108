use Rattle.std.proofs.Common.{take}
use Rattle.tb_mine.proofs.Imports.{Taken}
use Rattle.tb_mine.proofs.importing.import_parts.Given as goal

-- so many were imported
abbrev pub invariant-loop-part : goal.invariant-loop-part
invariant-loop-part g l =
    Taken g.A.Asks.follows l.is_json l.board (take l.part-index l.parts) (g.W.Write.contents l.fn.writer) (g.W.Write.contents l.writer) l.fn.asks l.asks
