use Rattle.std.proofs.Common.{sym, ◌∙◌}
use Rattle.tb_core.proofs.Depending.{linked_before, linked_now}
use Rattle.tb_core.proofs.linking.depend.Goals as goal

pub returns-then-is_linked_to-clause-gives : goal.returns-then-is_linked_to-clause-gives
returns-then-is_linked_to-clause-gives c =
    linked_before c.args.board.now c.args.id c.args.on c.args.at c.in_ok-place.place c.task_at-task.result.now
    c.in_ok-place.ensures.place c.task_at-task.ensures
    (sym c.in_ok-is_cycle.ensures ∙ c.if-branch.false) (sym c.is_linked_to.ensures ∙ c.if-is_linked_to.true)

pub returns-clause-gives : goal.returns-clause-gives
returns-clause-gives c =
    rw c.in_ok-task.ensures
    (linked_now c.args.board.now c.args.id c.args.on c.args.at c.in_ok-place.place c.task_at-task.result.now
    c.in_ok-place.ensures.place c.task_at-task.ensures
    (sym c.in_ok-is_cycle.ensures ∙ c.if-branch.false) (sym c.is_linked_to.ensures ∙ c.if-is_linked_to.false))
