use Rattle.std.proofs.Common.{◌≡◌}
use Rattle.tb_board.specs.Changing.{Follows}
use Rattle.tb_board.proofs.Awake.{woken_to}
use Rattle.tb_board.proofs.waking.wake_draft.Given as goal

-- the tasks before the place are awake
abbrev pub invariant-loop-place : goal.invariant-loop-place
invariant-loop-place l =
    record {
      board : l.draft.board ≡ record l.fn.draft.board { tasks = woken_to l.at l.fn.draft.board.tasks l.place };
      follows : Follows l.fn.draft l.draft;
    }
