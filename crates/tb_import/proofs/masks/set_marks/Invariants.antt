use Rattle.std.proofs.Common.{◌≡◌, ◌++◌, drop}
use Rattle.tb_board.specs.Changing.{Follows}
use Rattle.tb_import.specs.Entering.{marked_from}
use Rattle.tb_import.proofs.masks.set_marks.Given as goal

-- the places so far and those of the rest are all
abbrev pub invariant-loop-place : goal.invariant-loop-place
invariant-loop-place l =
    record {
      board : record l.draft.board { gone = l.draft.board.gone ++ marked_from l.template l.place (drop l.place l.mask) } ≡ record l.fn.draft.board { gone = l.fn.draft.board.gone ++ marked_from l.template 0 l.mask };
      follows : Follows l.fn.draft l.draft;
    }
