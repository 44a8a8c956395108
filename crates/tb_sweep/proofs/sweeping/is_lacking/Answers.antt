use Rattle.std.proofs.Common.{sym, ◌∙◌}
use Rattle.tb_sweep.proofs.Adding.{lacks_is, lacks_none}
use Rattle.tb_sweep.proofs.Counting.{count_is, count_past}
use Rattle.tb_sweep.proofs.sweeping.is_lacking.Goals as goal

pub returns-in_default : goal.returns-in_default
returns-in_default c b counts looks = lacks_none b c.args.at c.args.task.now (count_past b c.args.counts.now c.args.task.now.id counts c.in_default.ensures)

pub returns-in-Some-plan_of : goal.returns-in-Some-plan_of
returns-in-Some-plan_of c b counts looks =
    rw c.number.ensures.value at c.wants.ensures
    ∙ lacks_is b c.args.at c.args.task.now c.in-Some-plan_of.plan c.in-Some.next c.args.ahead (sym c.is_recurring_status.ensures ∙ c.if-not-is_recurring_status.false)
    c.in-Some-plan_of.ensures.value (count_is b c.args.counts.now c.args.task.now.id c.in-Some.next counts c.in-Some.ensures.0 c.in-Some.ensures.1) looks c.in-Some-plan_of.ensures.step
