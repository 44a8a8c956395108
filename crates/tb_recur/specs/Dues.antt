-- When the instances of a template are due, by seconds since 1970.
use Rattle.std.specs.Prelude.{◌≡◌, ◌≤◌, ℕ, ◌+◌, ◌*◌, ◌/◌, ◌%◌, if◌then◌else◌, nat_le, Option, Some, None}
use Rattle.tb_task.specs.declared.step.Step.{Step}
use Rattle.tb_task.specs.declared.step.Step.TheVariants.{Days, Weekdays, Months}
use Rattle.tb_task.specs.Civil.{date_of, day_number}
use Rattle.tb_recur.specs.Weekdays.{nth_weekday}
use Rattle.tb_recur.specs.Months.{months_later}

-- the day that is k steps after a day
unfoldable pub day_after : ℕ → Step → ℕ → ℕ
day_after day (Days n) k = day + n * k
day_after day Weekdays k = nth_weekday day k
day_after day (Months n) k = day_number (months_later (date_of day) (n * k))

-- a second since 1970, if it is within the year 9999
abbrev pub if_moment : ℕ → Option ℕ
if_moment m = if nat_le m 253402300799 then Some m else None

-- k steps after a moment, at the same time of day
-- Rule: the due dates are counted from the template's own. Tried by recurrences.
unfoldable pub due : ℕ → Step → ℕ → Option ℕ
due m step k = if_moment (day_after (m / 86400) step k * 86400 + m % 86400)

-- a step is at least a day
abbrev pub IsStep : Step → Type 0
IsStep (Days n) = 1 ≤ n
IsStep Weekdays = Unit {0}
IsStep (Months n) = 1 ≤ n
