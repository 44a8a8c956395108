use Rattle.std.proofs.Common.{◌∙◌, ap}
use Rattle.tb_task.specs.declared.task.Task.{Task}
use Rattle.tb_board.proofs.KnownNumbers.{knows_more}
use Rattle.tb_sweep.proofs.Adding.{id-instance}
use Rattle.tb_sweep.proofs.Counting.{counts_more}
use Rattle.tb_sweep.proofs.growing.with_instance.Goals as goal

pub returns-clause-growing : goal.returns-clause-growing
returns-clause-growing c =
    let b = c.args.growing.draft.board in
    let t = c.task_at.result.now in
    let made' = c.in_ok-task.ensures t c.task_at.ensures in
    rw c.in_ok-draft.ensures.board
    (record {
      knows = knows_more b c.args.marks.now c.args.growing.next c.next_number-number.result c.in_ok-task.task c.requires.growing.knows c.next_number-number.ensures.next
          (ap (λ (u : Task). u.id) made' ∙ id-instance t _ _ _);
      counts = rw made' (counts_more b c.args.growing.counts c.add.new.self t _ _ _ c.requires.growing.counts c.in_ok-add.ensures);
    })
