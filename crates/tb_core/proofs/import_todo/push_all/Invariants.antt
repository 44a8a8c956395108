use Rattle.std.proofs.Common.{◌≡◌, ◌++◌, map, take}
use Rattle.tb_board.specs.Changing.{Follows}
use Rattle.tb_core.proofs.import_todo.push_all.Given as goal

-- the tasks so far are last
abbrev pub invariant-loop-task : goal.invariant-loop-task
invariant-loop-task l =
    record {
      board : l.draft.board ≡ record l.fn.draft.board { tasks = l.fn.draft.board.tasks ++ map (λ task. task.now) (take l.task-index l.tasks) };
      follows : Follows l.fn.draft l.draft;
    }
