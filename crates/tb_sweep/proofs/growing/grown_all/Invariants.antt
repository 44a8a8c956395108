use Rattle.tb_board.specs.Changing.{Follows}
use Rattle.tb_sweep.specs.Growing.{IsGrowing}
use Rattle.tb_sweep.proofs.Adding.{IsGrownTo}
use Rattle.tb_sweep.proofs.growing.grown_all.Given as goal

abbrev pub invariant-loop-place : goal.invariant-loop-place
invariant-loop-place l =
    record {
      grown : IsGrownTo l.at l.fn.growing.draft.board l.growing.draft.board l.place;
      growing : IsGrowing l.marks l.growing;
      follows : Follows l.fn.growing.draft l.growing.draft;
    }
