use Rattle.std.proofs.Common.{◌≡◌, ◌++◌, drop}
use Rattle.tb_board.specs.Changing.{Follows}
use Rattle.tb_import.specs.Entering.{mask_places}
use Rattle.tb_import.proofs.masks.set_masks.Given as goal

-- the places so far and those of the rest are all
abbrev pub invariant-loop-incoming : goal.invariant-loop-incoming
invariant-loop-incoming l =
    record {
      board : record l.draft.board { gone = l.draft.board.gone ++ mask_places (drop l.incoming-index l.new) } ≡ record l.fn.draft.board { gone = l.fn.draft.board.gone ++ mask_places l.new };
      follows : Follows l.fn.draft l.draft;
    }
