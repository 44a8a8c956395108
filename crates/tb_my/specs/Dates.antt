-- Dates of the calendar, counted from 1970-01-01, by their digits.
use Rattle.std.specs.Prelude.{ℕ, ◌+◌, ◌-◌, ◌*◌, ◌/◌, ◌%◌, ◌==◌, ◌&&◌, nat_le, nat_lt, List, [], ◌∷◌, slice_index, Option, Some, None, option_map, option_and_then, if◌then◌else◌}
use Rattle.tb_my.specs.Digits.{two_in}
use Rattle.tb_my.specs.Zone.{in_time}
use Rattle.tb_todotxt.specs.Day.{day_of, day_text}

abbrev pub digit_in : ℕ → ℕ
digit_in byte = byte - 48

-- the number of the two digits at a place
abbrev pub number_at : List ℕ → ℕ → ℕ
number_at text place =
    digit_in (slice_index text place) * 10 + digit_in (slice_index text (place + 1))

abbrev pub year_at : List ℕ → ℕ
year_at text = number_at text 0 * 100 + number_at text 2

-- the last digit of a number
abbrev pub digit_char : ℕ → ℕ
digit_char number = 48 + number % 10

abbrev pub date_bytes : ℕ → ℕ → ℕ → List ℕ
date_bytes year month day =
    digit_char (year / 1000) ∷ digit_char (year / 100) ∷ digit_char (year / 10) ∷ digit_char year
    ∷ 45 ∷ digit_char (month / 10) ∷ digit_char month
    ∷ 45 ∷ digit_char (day / 10) ∷ digit_char day ∷ []

-- the day with these parts, if the calendar has it
abbrev pub read_date : ℕ → ℕ → ℕ → Option ℕ
read_date year month day =
    if nat_lt 9999 year then None else day_of (date_bytes year month day)

-- the date of a day, as 2026-12-01
abbrev pub date_text : ℕ → Option (List ℕ)
date_text day = option_map (λ m. day_text (m / 86400)) (in_time (day * 86400))

abbrev pub or_day : Option ℕ → Option ℕ → Option ℕ
or_day (Some day) other = Some day
or_day None other = other

abbrev pub last_of_month : ℕ → ℕ → Option ℕ
last_of_month year month =
    or_day (read_date year month 31)
    (or_day (read_date year month 30)
    (or_day (read_date year month 29) (read_date year month 28)))

-- a day of a month, or the last one where the month is shorter
abbrev pub day_in_month : ℕ → ℕ → ℕ → Option ℕ
day_in_month year month day = or_day (read_date year month day) (last_of_month year month)

-- the last day of the month of a day
abbrev pub month_end : ℕ → Option ℕ
month_end today =
    option_and_then (λ text. last_of_month (year_at text) (number_at text 5)) (date_text today)

-- of a date's text, so many months later
abbrev pub months_after : List ℕ → ℕ → Option ℕ
months_after text months = day_in_month
    (year_at text + (number_at text 5 - 1 + months) / 12)
    ((number_at text 5 - 1 + months) % 12 + 1)
    (number_at text 8)

-- the same day so many months later, or the last of that month
abbrev pub months_later : ℕ → ℕ → Option ℕ
months_later today months = option_and_then (λ text. months_after text months) (date_text today)

abbrev pub day_from : ℕ → Option ℕ → Option ℕ → Option ℕ
day_from today None next = next
day_from today (Some day) next = if nat_le today day then Some day else next

abbrev pub next_such : ℕ → ℕ → ℕ → Option ℕ
next_such today month day = option_and_then
    (λ text. day_from today (read_date (year_at text) month day)
    (read_date (year_at text + 1) month day))
    (date_text today)

abbrev pub such_if : ℕ → Option ℕ → Option ℕ → Option ℕ
such_if today None day = None
such_if today (Some month) None = None
such_if today (Some month) (Some day) = next_such today month day

-- the next such date from a day on, of 12-24 or 24.12.
abbrev pub short_date : ℕ → List ℕ → Option ℕ
short_date today (a ∷ b ∷ mark ∷ c ∷ d ∷ []) =
    if mark == 45 then such_if today (two_in a b) (two_in c d) else None
short_date today (a ∷ b ∷ mark ∷ c ∷ d ∷ end ∷ []) =
    if (mark == 46) && (end == 46) then such_if today (two_in c d) (two_in a b) else None
short_date today _ = None
