use Rattle.tb_recur.proofs.WeekdayLemmas.{weekday_after_is, nth_is_after}
use Rattle.tb_recur.proofs.weekdays.nth_weekdays_are_counted.Goals as goal

pub returns : goal.returns
returns c day k later some = (weekday_after_is day k later some, nth_is_after day k some)
