-- Days from Monday to Friday, by day numbers. Day 0, 1970-01-01, was a Thursday.
use Rattle.std.specs.Prelude.{◌≡◌, ◌≤◌, ℕ, zero, suc, ◌+◌, ◌%◌, ◌/◌, ◌*◌, min, Bool, true, if◌then◌else◌, nat_lt}

abbrev pub is_weekday : ℕ → Bool
is_weekday day = nat_lt ((day + 3) % 7) 5

-- how many of the j days after a day are from Monday to Friday
abbrev pub weekdays_after : ℕ → ℕ → ℕ
weekdays_after day zero = 0
weekdays_after day (suc j) = weekdays_after day j + (if is_weekday (day + suc j) then 1 else 0)

-- how many there are up to a day, from the Monday before day 0 on
abbrev pub weekdays_to : ℕ → ℕ
weekdays_to day = (day + 3) / 7 * 5 + min ((day + 3) % 7 + 1) 5

-- from Monday to Friday, and exactly k such days lie after the first day up to and including it
pub record IsWeekdayAfter (day k later : ℕ) : Type 0 where
  pub distance : ℕ
  pub place : later ≡ day + distance
  pub weekday : is_weekday later ≡ true
  pub count : weekdays_after day distance ≡ k

-- the next day from Monday to Friday
abbrev pub next_weekday : ℕ → ℕ
next_weekday day =
    if is_weekday (day + 1) then day + 1
    else if is_weekday (day + 2) then day + 2
    else day + 3

-- the k-th day from Monday to Friday after a day
unfoldable pub nth_weekday : ℕ → ℕ → ℕ
nth_weekday day zero = day
nth_weekday day (suc k) = next_weekday (nth_weekday day k)

-- the k-th weekday is the day up to which exactly k weekdays lie after the first
abbrev pub IsNthWeekday : Type 0
IsNthWeekday = (day k later : ℕ) → 1 ≤ k → (IsWeekdayAfter day k later → later ≡ nth_weekday day k)
    × IsWeekdayAfter day k (nth_weekday day k)
