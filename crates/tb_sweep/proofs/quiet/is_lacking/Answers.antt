use Rattle.std.proofs.Common.{refl, sym, ◌∙◌}
use Rattle.tb_sweep.proofs.Adding.{lacks_is, lacks_none}
use Rattle.tb_sweep.proofs.quiet.is_lacking.Goals as goal

pub returns-in_default : goal.returns-in_default
returns-in_default c = lacks_none c.args.board.now c.args.at c.args.task.now c.in_default.ensures

pub returns-in-Some-plan_of : goal.returns-in-Some-plan_of
returns-in-Some-plan_of c =
    rw c.number.ensures.value at c.wants.ensures
    ∙ lacks_is c.args.board.now c.args.at c.args.task.now c.in-Some-plan_of.plan c.in-Some.next c.args.board.now.ahead (sym c.is_recurring_status.ensures ∙ c.if-not-is_recurring_status.false)
    c.in-Some-plan_of.ensures.value c.in-Some.ensures.0 refl c.in-Some-plan_of.ensures.step
