-- Dates in a line: ten bytes, four digits of the year, two of the month and two of the day, with hyphens between them.
use Rattle.std.specs.Prelude.{◌≤◌, ℕ, ◌*◌, ◌/◌, Bool, ◌&&◌, ◌==◌, if◌then◌else◌, List, ◌∷◌, ◌++◌, length, slice_index, Option, None, option_map, codes}
use Rattle.tb_task.specs.Civil.{date_of}
use Rattle.tb_task.specs.MomentText.{two, four, moment_of}

-- up to 9999-12-31, counted from 1970-01-01
abbrev pub IsDay : ℕ → Type 0
IsDay n = n ≤ 2932896

-- the first second of a day
abbrev pub start_of : ℕ → ℕ
start_of n = n * 86400

-- the text of a day
unfoldable pub day_text : ℕ → List ℕ
day_text n = four (date_of n).year ++ 45 ∷ two (date_of n).month ++ 45 ∷ two (date_of n).day

abbrev pub has_hyphens : List ℕ → Bool
has_hyphens s = (length s == 10) && (slice_index s 4 == 45) && (slice_index s 7 == 45)

-- the date's digits, as the text of a moment has them, at the beginning of the day
abbrev pub first_second : List ℕ → List ℕ
first_second s =
    slice_index s 0 ∷ slice_index s 1 ∷ slice_index s 2 ∷ slice_index s 3 ∷ slice_index s 5
    ∷ slice_index s 6 ∷ slice_index s 8 ∷ slice_index s 9
    ∷ codes "T000000Z"

-- the day that a text writes
unfoldable pub day_of : List ℕ → Option ℕ
day_of s = if has_hyphens s then option_map (λ m. m / 86400) (moment_of (first_second s)) else None
