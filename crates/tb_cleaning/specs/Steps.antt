-- Taskwarrior's names of steps, and the steps of a board that mean the same.
use Rattle.std.specs.Prelude.{ℕ, ◌+◌, ◌-◌, ◌*◌, ◌==◌, ◌||◌, min, Bool, List, [], ◌∷◌, ◌++◌, decimal, codes, Option, Some, None, option_map, option_and_then, is_some, if◌then◌else◌}
use Rattle.std.specs.Str.{bytes_eq}
use Rattle.tb_task.specs.Step.{is_digit, step_of}

abbrev pub Text : Type 0
Text = List ℕ

-- ---- the names of units

unfoldable pub is_day : Text → Bool
is_day name = bytes_eq name (codes "d") || bytes_eq name (codes "day")
    || bytes_eq name (codes "days") || bytes_eq name (codes "daily")

unfoldable pub is_week : Text → Bool
is_week name = bytes_eq name (codes "w") || bytes_eq name (codes "wk")
    || bytes_eq name (codes "wks") || bytes_eq name (codes "week")
    || bytes_eq name (codes "weeks") || bytes_eq name (codes "weekly")

-- a sennight has 14 days in Taskwarrior
unfoldable pub is_fortnight : Text → Bool
is_fortnight name = bytes_eq name (codes "fortnight") || bytes_eq name (codes "sennight")
    || bytes_eq name (codes "biweekly")

unfoldable pub is_month : Text → Bool
is_month name = bytes_eq name (codes "m") || bytes_eq name (codes "mo")
    || bytes_eq name (codes "mos") || bytes_eq name (codes "mth")
    || bytes_eq name (codes "mths") || bytes_eq name (codes "mnths")
    || bytes_eq name (codes "month") || bytes_eq name (codes "months")
    || bytes_eq name (codes "monthly")

unfoldable pub is_quarter : Text → Bool
is_quarter name = bytes_eq name (codes "q") || bytes_eq name (codes "qtr")
    || bytes_eq name (codes "qtrs") || bytes_eq name (codes "qrtr")
    || bytes_eq name (codes "qrtrs") || bytes_eq name (codes "quarter")
    || bytes_eq name (codes "quarters") || bytes_eq name (codes "quarterly")

unfoldable pub is_year : Text → Bool
is_year name = bytes_eq name (codes "y") || bytes_eq name (codes "yr")
    || bytes_eq name (codes "yrs") || bytes_eq name (codes "year")
    || bytes_eq name (codes "years") || bytes_eq name (codes "annual")
    || bytes_eq name (codes "yearly")

unfoldable pub is_two_years : Text → Bool
is_two_years name = bytes_eq name (codes "biannual") || bytes_eq name (codes "biyearly")

-- a unit: so many of a board's letters
unfoldable pub unit_of : Text → Option (ℕ × Text)
unit_of name =
    if is_day name then Some (1, codes "d")
    else if is_week name then Some (7, codes "d")
    else if is_fortnight name then Some (14, codes "d")
    else if is_month name then Some (1, codes "mo")
    else if bytes_eq name (codes "bimonthly") then Some (2, codes "mo")
    else if is_quarter name then Some (3, codes "mo")
    else if bytes_eq name (codes "semiannual") then Some (6, codes "mo")
    else if is_year name then Some (1, codes "y")
    else if is_two_years name then Some (2, codes "y")
    else None

-- ---- a number and a name

abbrev pub after_digits : Text → Text
after_digits [] = []
after_digits (c ∷ cs) = if is_digit c then after_digits cs else c ∷ cs

abbrev pub after_spaces : Text → Text
after_spaces [] = []
after_spaces (c ∷ cs) = if c == 32 then after_spaces cs else c ∷ cs

-- a number, 1,000 at most, with one digit more
abbrev pub with_digit : ℕ → ℕ → ℕ
with_digit n c = min (n * 10 + (c - 48)) 1000

-- the number of the digits at the front, 1,000 at most
abbrev pub times_on : ℕ → Text → ℕ
times_on n [] = n
times_on n (c ∷ cs) = if is_digit c then times_on (with_digit n c) cs else n

-- without digits it is 1
abbrev pub times_of : Text → ℕ
times_of [] = 1
times_of (c ∷ cs) = if is_digit c then times_on 0 (c ∷ cs) else 1

abbrev pub short_of : Text → Option Text
short_of text = option_map (λ (u : ℕ × Text). decimal (u.0 * times_of text) ++ u.1)
    (unit_of (after_spaces (after_digits text)))

-- ---- a board's step

-- the word for a step, where there is one
unfoldable pub word_of : Text → Text
word_of short =
    if bytes_eq short (codes "1d") then codes "daily"
    else if bytes_eq short (codes "7d") then codes "weekly"
    else if bytes_eq short (codes "14d") then codes "biweekly"
    else if bytes_eq short (codes "1mo") then codes "monthly"
    else if bytes_eq short (codes "3mo") then codes "quarterly"
    else if bytes_eq short (codes "6mo") then codes "semiannual"
    else if bytes_eq short (codes "1y") then codes "yearly"
    else short

abbrev pub if_step : Text → Option Text
if_step word = if is_some (step_of word) then Some word else None

-- the step of a board that means the same as a text that is none
-- Rule: cleaning respells Taskwarrior's steps. Tried by own_cleaning.sh.
abbrev pub respelled : Text → Option Text
respelled text = if is_some (step_of text) then None
    else option_and_then (λ short. if_step (word_of short)) (short_of text)
