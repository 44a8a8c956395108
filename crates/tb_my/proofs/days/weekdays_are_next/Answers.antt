use Rattle.tb_my.proofs.Weekdays.{next_weekday}
use Rattle.tb_my.proofs.days.weekdays_are_next.Goals as goal

pub returns : goal.returns
returns c = next_weekday
