use Rattle.std.proofs.Common.{arith}
use Rattle.tb_board.proofs.Awake.{wakes_on}
use Rattle.tb_board.proofs.waking.wake_draft.Goals as goal

pub loop-place-preserved : goal.loop-place-preserved
loop-place-preserved c =
    record {
      board = wakes_on c.args.at c.args.draft.board c.loop-place.draft.board c.in_ok-draft.draft.board c.loop-place.place (omega arith) c.loop-place.invariant.board c.in_ok-draft.ensures.board;
      follows = λ start h. c.in_ok-draft.ensures.follows start (c.loop-place.invariant.follows start h);
    }
