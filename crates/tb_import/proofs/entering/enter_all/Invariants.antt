use Rattle.std.proofs.Common.{List, drop}
use Rattle.tb_board.specs.Changing.{Follows}
use Rattle.tb_board.specs.declared.board.Board.{Board}
use Rattle.tb_task.specs.declared.incoming.Incoming.{Incoming}
use Rattle.tb_import.specs.Known.{AreGone, IsKnown}
use Rattle.tb_import.proofs.Steps.{IsEnteredTo}
use Rattle.tb_import.proofs.entering.enter_all.Given as goal

abbrev pub invariant-loop-incoming : goal.invariant-loop-incoming
invariant-loop-incoming l =
    record {
      entered : (first : Board) (all : List Incoming) → IsKnown first all l.known → AreGone l.fn.entering.draft.board.gone l.fn.entering.places → IsEnteredTo first all l.fn.entering l.entering l.new (drop l.incoming-index l.new);
      follows : Follows l.fn.entering.draft l.entering.draft;
    }
