-- What clocks show, by how far they are ahead of UTC. A day is counted from 1970-01-01.
use Rattle.std.specs.Prelude.{ℕ, ◌+◌, ◌-◌, ◌/◌, ◌%◌, ◌==◌, Bool, not, ◌&&◌, nat_le, List, [], ◌∷◌, Option, Some, None, if◌then◌else◌}
use Rattle.tb_my.specs.declared.zone.Clock.{Clock}
use Rattle.tb_my.specs.declared.zone.Shift.{Shift}

-- how far the clocks are ahead of UTC, and a day more: by the last of these that began by then
abbrev pub ahead_from : ℕ → List Shift → ℕ → ℕ
ahead_from ahead [] moment = ahead
ahead_from ahead (shift ∷ shifts) moment =
    if nat_le shift.from moment then ahead_from shift.ahead shifts moment else ahead

-- without a zone they show UTC
abbrev pub ahead_at : List Shift → ℕ → ℕ
ahead_at shifts moment = ahead_from 86400 shifts moment

-- the second that clocks show, and a day more
abbrev pub shown_at : List Shift → ℕ → ℕ
shown_at shifts moment = moment + ahead_at shifts moment

abbrev pub begins_day : ℕ → Bool
begins_day second = second % 86400 == 0

-- the day on which a moment falls. The first second of a day of UTC says that day, wherever its reader is
-- Rule: a day without a time is its first second in UTC, and that day everywhere. Tried by my.sh.
abbrev pub day_at : List Shift → ℕ → ℕ
day_at shifts moment = if begins_day moment then moment / 86400
    else shown_at shifts moment / 86400 - 1

-- whether a moment says more than a day
abbrev pub is_timed : List Shift → ℕ → Bool
is_timed shifts moment = not (begins_day moment) && not (begins_day (shown_at shifts moment))

-- the minute of the day that clocks show
abbrev pub minute_at : List Shift → ℕ → ℕ
minute_at shifts moment = shown_at shifts moment % 86400 / 60

abbrev pub today : Clock → ℕ
today clock = shown_at clock.shifts clock.moment / 86400 - 1

-- the moment at which clocks show a second, if they are as far ahead then as at the other moment
abbrev pub moment_near : List Shift → ℕ → ℕ → ℕ
moment_near shifts second other = second + 86400 - ahead_at shifts other

-- the moment at which clocks show a second. One that they skip is shown as a later one, and of one that they show twice either is meant
abbrev pub moment_shown : List Shift → ℕ → ℕ
moment_shown shifts second =
    moment_near shifts second (moment_near shifts second second)

-- up to the year 9999
abbrev pub in_time : ℕ → Option ℕ
in_time second = if nat_le second 253402300799 then Some second else None
