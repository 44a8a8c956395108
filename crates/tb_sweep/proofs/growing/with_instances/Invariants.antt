use Rattle.std.proofs.Common.{◌≡◌, ◌+◌, ◌-◌, get_or, length}
use Rattle.tb_task.specs.declared.task.Task.{Task}
use Rattle.tb_board.specs.Changing.{Follows}
use Rattle.tb_sweep.specs.Growing.{IsGrowing}
use Rattle.tb_sweep.specs.Sweeping.{with_instances}
use Rattle.tb_sweep.proofs.growing.with_instances.Given as goal

-- those that are left make of the board what all of them make of the first one
abbrev pub invariant-loop-offset : goal.invariant-loop-offset
invariant-loop-offset l =
    record {
      growing : IsGrowing l.marks l.growing;
      size : length l.growing.draft.board.tasks ≡ length l.fn.growing.draft.board.tasks + l.offset;
      template : (t : Task) → get_or l.growing.draft.board.tasks l.place t ≡ get_or l.fn.growing.draft.board.tasks l.place t;
      same : (t : Task) → t ≡ get_or l.fn.growing.draft.board.tasks l.place t
          → with_instances l.at t (l.first + l.offset) (l.number - l.offset) l.growing.draft.board ≡ with_instances l.at t l.first l.number l.fn.growing.draft.board;
      follows : Follows l.fn.growing.draft l.growing.draft;
    }
