use Rattle.std.proofs.Common.{arith}
use Rattle.tb_import.proofs.Marking.{mark_next}
use Rattle.tb_import.proofs.masks.set_marks.Goals as goal

pub loop-place-preserved : goal.loop-place-preserved
loop-place-preserved c =
    record {
      board = mark_next _ c.loop-place.draft.board c.in_ok-draft.draft.board c.args.template c.loop-place.place c.at.result c.args.mask.now (omega (arith, c.loop-place-test.true, c.len-place-end.ensures)) c.at.ensures
          c.in_ok-draft.ensures.board c.loop-place.invariant.board;
      follows = λ start h. c.in_ok-draft.ensures.follows start (c.loop-place.invariant.follows start h);
    }
