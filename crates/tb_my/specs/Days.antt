-- Days and times by their names, from a moment on. A day is counted from 1970-01-01, a Thursday.
use Rattle.std.specs.Char.{to_ascii_lowercase}
use Rattle.std.specs.Prelude.{◌≡◌, ◌≤◌, ◌<◌, ℕ, ◌+◌, ◌-◌, ◌*◌, ◌%◌, ◌==◌, ◌||◌, nat_lt, List, [], ◌∷◌, codes, length, map, take, drop, slice_index, Option, Some, None, option_and_then, option_map, unwrap_or, if◌then◌else◌}
use Rattle.std.specs.Str.{bytes_eq, trim}
use Rattle.tb_my.specs.Dates.{month_end, months_later, or_day, short_date}
use Rattle.tb_my.specs.Digits.{below, two_in}
use Rattle.tb_my.specs.Zone.{in_time, moment_shown, today}
use Rattle.tb_my.specs.declared.zone.Clock.{Clock}
use Rattle.tb_todotxt.specs.Day.{day_of}
use Rattle.tb_values.specs.Numerals.{number_to}

abbrev pub Text : Type 0
Text = List ℕ

-- what follows a key at the front of a word
abbrev pub after_key : Text → Text → Option Text
after_key key word = if bytes_eq (take (length key) word) key
    then Some (drop (length key) word) else None

-- what stands before a key at the end of a word
abbrev pub before_key : Text → Text → Option Text
before_key key word = if bytes_eq (drop (length word - length key) word) key
    then Some (take (length word - length key) word) else None

-- ---- weekdays

-- Monday is 0
unfoldable pub weekday_named : Text → Option ℕ
weekday_named word =
    if bytes_eq word (codes "monday") || bytes_eq word (codes "mon") then Some 0
    else if bytes_eq word (codes "tuesday") || bytes_eq word (codes "tue") then Some 1
    else if bytes_eq word (codes "wednesday") || bytes_eq word (codes "wed") then Some 2
    else if bytes_eq word (codes "thursday") || bytes_eq word (codes "thu") then Some 3
    else if bytes_eq word (codes "friday") || bytes_eq word (codes "fri") then Some 4
    else if bytes_eq word (codes "saturday") || bytes_eq word (codes "sat") then Some 5
    else if bytes_eq word (codes "sunday") || bytes_eq word (codes "sun") then Some 6
    else None

abbrev pub weekday_of : ℕ → ℕ
weekday_of day = (day + 3) % 7

-- how many days it is from a day to the next of a weekday
abbrev pub until_weekday : ℕ → ℕ → ℕ
until_weekday day weekday = (weekday % 7 + 6 - weekday_of day) % 7 + 1

-- a day of that weekday is reached, within a week, and it isn't the day itself
abbrev pub IsNextWeekday : Type 0
IsNextWeekday = (day weekday : ℕ) → weekday < 7
    → (weekday_of (day + until_weekday day weekday) ≡ weekday)
    × (1 ≤ until_weekday day weekday) × (until_weekday day weekday ≤ 7)

-- ---- steps

-- without the `in` or the `+` in front
abbrev pub unsigned : Text → Text
unsigned word =
    unwrap_or (after_key (codes "in ") word) (unwrap_or (after_key (codes "+") word) word)

abbrev pub singular : Text → Text
singular word = unwrap_or (before_key (codes "s") word) word

-- from 1 to 9999
abbrev pub count_before : Text → Text → Option ℕ
count_before word unit =
    option_and_then (number_to 9999) (option_map trim (before_key unit word))

-- the number before a unit, in short or in full
abbrev pub counted : Text → Text → Text → Option ℕ
counted word short unit = or_day (count_before (singular word) unit) (count_before word short)

-- so many days, weeks or months
abbrev pub steps_from : ℕ → Text → Option ℕ
steps_from today word =
    or_day (option_map (λ days. today + days) (counted word (codes "d") (codes "day")))
    (or_day (option_map (λ weeks. today + weeks * 7) (counted word (codes "w") (codes "week")))
    (option_and_then (λ months. months_later today months)
    (counted word (codes "mo") (codes "month"))))

abbrev pub stepped : ℕ → Text → Option ℕ
stepped today word = steps_from today (unsigned word)

-- ---- the day that a word names

-- the Sunday of the week of a day
abbrev pub end_of_week : ℕ → ℕ
end_of_week today = today + 6 - (today + 3) % 7

unfoldable pub day_by_name : ℕ → Text → Option ℕ
day_by_name today word =
    if bytes_eq word (codes "today") || bytes_eq word (codes "eod") then Some today
    else if bytes_eq word (codes "tomorrow") then Some (today + 1)
    else if bytes_eq word (codes "yesterday") then Some (today - 1)
    else if bytes_eq word (codes "eow") then Some (end_of_week today)
    else if bytes_eq word (codes "eom") then month_end today
    else if bytes_eq word (codes "next week") then Some (today + 7)
    else if bytes_eq word (codes "next month") then months_later today 1
    else None

abbrev pub weekday_from : ℕ → Text → Option ℕ
weekday_from today word =
    option_map (λ weekday. today + until_weekday today weekday) (weekday_named word)

-- a day by its name, the next of a weekday, so many days, weeks or months, or a date
abbrev pub day_in : ℕ → Text → Option ℕ
day_in today word =
    or_day (day_by_name today word)
    (or_day (weekday_from today word)
    (or_day (stepped today word) (or_day (day_of word) (short_date today word))))

abbrev pub small : Text → Text
small word = map to_ascii_lowercase word

-- Capitals don't count.
-- Rule: a day by any name is the one that a calendar has. Tried by my.sh.
abbrev pub day_named : Clock → Text → Option ℕ
day_named clock word = day_in (today clock) (small word)

-- ---- the time behind it

abbrev pub minutes_with : Option ℕ → Option ℕ → Option ℕ
minutes_with None minutes = None
minutes_with (Some hours) None = None
minutes_with (Some hours) (Some minutes) = Some (hours * 60 + minutes)

-- 14:00 as minutes
abbrev pub minutes_in : Text → Option ℕ
minutes_in (a ∷ b ∷ colon ∷ c ∷ d ∷ []) = if colon == 58
    then minutes_with (below 24 (two_in a b)) (below 60 (two_in c d)) else None
minutes_in _ = None

-- the moment at which clocks show this minute of a day
abbrev pub moment_of : Clock → Option ℕ → Option ℕ → Option ℕ
moment_of clock None minutes = None
moment_of clock (Some day) None = None
moment_of clock (Some day) (Some minutes) =
    option_and_then (λ second. in_time (moment_shown clock.shifts second))
    (in_time (day * 86400 + minutes * 60))

-- today, a day, or a day and a T
abbrev pub day_before_time : ℕ → Text → Option ℕ
day_before_time today front = if bytes_eq front [] then Some today
    else or_day (day_in today front)
    (option_and_then (λ day. day_in today day) (before_key (codes "t") front))

-- the last five bytes, and what stands before them
abbrev pub timed_at : Clock → Text → ℕ → Option ℕ
timed_at clock word start = if nat_lt (slice_index word start) 128
    then moment_of clock (day_before_time (today clock) (take start word)) (minutes_in (drop start word))
    else None

abbrev pub timed : Clock → Text → Option ℕ
timed clock word =
    if nat_lt (length word) 5 then None else timed_at clock word (length word - 5)

abbrev pub begin_or_timed : Clock → Option ℕ → Text → Option ℕ
begin_or_timed clock (Some day) word = in_time (day * 86400)
begin_or_timed clock None word = timed clock word

-- now, the first second of a day in UTC, or a time on it
abbrev pub moment_in : Clock → Text → Option ℕ
moment_in clock word = if bytes_eq word (codes "now") then Some clock.moment
    else begin_or_timed clock (day_in (today clock) word) word

abbrev pub moment_named : Clock → Text → Option ℕ
moment_named clock word = moment_in clock (small word)
