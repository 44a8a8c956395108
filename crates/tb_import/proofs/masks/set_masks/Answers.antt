use Rattle.tb_import.proofs.Marking.{mask_next}
use Rattle.tb_import.proofs.masks.set_masks.Goals as goal

pub loop-incoming-preserved : goal.loop-incoming-preserved
loop-incoming-preserved c =
    record {
      board = mask_next _ c.loop-incoming.draft.board c.in_ok-draft.draft.board c.loop-incoming.incoming-index c.incoming-item.result c.args.new.now c.loop-incoming-test.true
          c.incoming-item.is c.in_ok-draft.ensures.board c.loop-incoming.invariant.board;
      follows = λ start h. c.in_ok-draft.ensures.follows start (c.loop-incoming.invariant.follows start h);
    }
