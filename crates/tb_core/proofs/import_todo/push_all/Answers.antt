use Rattle.std.proofs.Common.{arith}
use Rattle.tb_core.proofs.Importing.{pushed}
use Rattle.tb_core.proofs.import_todo.push_all.Goals as goal

pub loop-task-preserved : goal.loop-task-preserved
loop-task-preserved c =
    record {
      board = pushed c.args.draft.board c.loop-task.draft.board c.in_ok-draft.draft.board c.args.tasks.now c.loop-task.task-index c.task-item.result
          (omega arith) c.task-item.is c.loop-task.invariant.board c.in_ok-draft.ensures.board;
      follows = λ start h. c.in_ok-draft.ensures.follows start (c.loop-task.invariant.follows start h);
    }
