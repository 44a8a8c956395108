-- Dates counted by months.
use Rattle.std.specs.Prelude.{◌≡◌, ℕ, ◌+◌, ◌-◌, ◌*◌, ◌/◌, ◌%◌, min, pos}
use Rattle.jiff_core.specs.declared.civil.date.Date.{Date}
use Rattle.jiff_core.specs.Calendar.{days_in_month}
use Rattle.tb_task.specs.Civil.{CivilDate}

-- the date that many months after January of the year 0, with that day of the month, or the last where the month is shorter
pub record IsClamped (months day : ℕ) (d : Date) : Type 0 where
  pub year : d.year ≡ pos (months / 12)
  pub month : d.month ≡ months % 12 + 1
  pub day_in : d.day ≡ min day (days_in_month (pos (months / 12)) (months % 12 + 1))

-- the date n months after another, on that day of the month, or on its last where the month is shorter
-- Rule: in a shorter month the last day is due. Tried by rent_month_end.
abbrev pub months_later : CivilDate → ℕ → CivilDate
months_later d n =
    let months = d.year * 12 + (d.month - 1) + n in
    let year = months / 12 in
    let month = months % 12 + 1 in
    record { year = year; month = month; day = min d.day (days_in_month (pos year) month) }
