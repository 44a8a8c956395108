use Rattle.std.proofs.Common.{arith}
use Rattle.tb_recur.specs.Weekdays.{nth_weekday}
use Rattle.tb_recur.proofs.WeekdayLemmas.{weekday_after_is}
use Rattle.tb_recur.proofs.weekdays.weekdays_later.Goals as goal

pub returns-then-k-eq0 : goal.returns-then-k-eq0
unfolding nth_weekday
returns-then-k-eq0 c = rw c.if-k-eq0.true

pub returns : goal.returns
returns c = weekday_after_is c.args.day c.args.k c.weekday_after.result (omega (arith, c.if-k-eq0.false)) c.weekday_after.ensures
