-- Days and times in words.
use Rattle.std.specs.Prelude.{ℕ, ◌+◌, ◌*◌, ◌/◌, ◌%◌, ◌==◌, ◌&&◌, nat_lt, [], ◌∷◌, ◌++◌, codes, Option, Some, None, if◌then◌else◌}
use Rattle.tb_finding.specs.Board.{Text}
use Rattle.tb_my.specs.Days.{weekday_of}
use Rattle.tb_my.specs.Zone.{day_at, in_time, is_timed, minute_at, today}
use Rattle.tb_my.specs.declared.zone.Clock.{Clock}
use Rattle.tb_task.specs.MomentText.{two}
use Rattle.tb_todotxt.specs.Day.{day_text}

-- Monday is 0
abbrev pub weekday_word : ℕ → Text
weekday_word weekday =
    if weekday == 0 then codes "mon"
    else if weekday == 1 then codes "tue"
    else if weekday == 2 then codes "wed"
    else if weekday == 3 then codes "thu"
    else if weekday == 4 then codes "fri"
    else if weekday == 5 then codes "sat"
    else codes "sun"

abbrev pub dated : Option ℕ → Text
dated None = []
dated (Some moment) = day_text (moment / 86400)

-- as 2026-12-01
abbrev pub date_word : ℕ → Text
date_word day = dated (in_time (day * 86400))

-- the next six days after tomorrow go by the names of their weekdays
abbrev pub day_word : ℕ → ℕ → Text
day_word today day =
    if day == today then codes "today"
    else if day == today + 1 then codes "tomorrow"
    else if day + 1 == today then codes "yesterday"
    else if nat_lt today day && nat_lt day (today + 7) then weekday_word (weekday_of day)
    else date_word day

-- as 14:00
abbrev pub time_word : ℕ → Text
time_word minute = two (minute / 60) ++ 58 ∷ two (minute % 60)

-- a day, and the time on it where one is said
abbrev pub moment_word : Clock → ℕ → Text
moment_word clock moment =
    if is_timed clock.shifts moment
    then day_word (today clock) (day_at clock.shifts moment)
    ++ 32 ∷ time_word (minute_at clock.shifts moment)
    else day_word (today clock) (day_at clock.shifts moment)
