-- The next day of a weekday is one, and comes within a week.
use Rattle.std.proofs.Common.{arith}
use Rattle.tb_my.specs.Days.{IsNextWeekday}

pub next_weekday : IsNextWeekday
next_weekday day weekday below = (omega arith, omega arith, omega arith)
