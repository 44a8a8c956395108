use Rattle.std.proofs.Common.{arith}
use Rattle.tb_recur.proofs.WeekdayLemmas.{weekday_found}
use Rattle.tb_recur.proofs.weekdays.weekday_after.Goals as goal

pub returns : goal.returns
returns c = weekday_found c.args.day c.args.k _ c.requires.some (rw c.weekdays_until-before.ensures (omega arith))
