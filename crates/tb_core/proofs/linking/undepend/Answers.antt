use Rattle.std.proofs.Common.{sym, ◌∙◌}
use Rattle.tb_core.proofs.Depending.{unlinked_there}
use Rattle.tb_core.proofs.linking.undepend.Goals as goal

pub returns-clause-gives : goal.returns-clause-gives
returns-clause-gives c =
    rw c.in_ok-task.ensures
    (unlinked_there c.args.board.now c.args.id c.args.on c.args.at c.in_ok-place.place c.task_at-task.result.now
    c.in_ok-place.ensures.place c.task_at-task.ensures
    (sym c.is_linked_to.ensures ∙ c.if-not-is_linked_to.false))
