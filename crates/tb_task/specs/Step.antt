-- Texts of steps: a word of the table, or a number from 1 to 999 without a leading zero between the letters of a row.
use Rattle.std.specs.Prelude.{ℕ, ◌+◌, ◌-◌, ◌*◌, Bool, ◌&&◌, if◌then◌else◌, nat_le, List, [], ◌∷◌, length, take, drop, Option, Some, None, bytes_eq, codes}
use Rattle.std.specs.Option.{option_map}
use Rattle.tb_task.specs.declared.step.Step.{Step}
use Rattle.tb_task.specs.declared.step.Step.TheVariants.{Days, Weekdays, Months}

unfoldable pub word_step : List ℕ → Option Step
word_step s =
    if bytes_eq s (codes "daily") then Some (Days 1)
    else if bytes_eq s (codes "day") then Some (Days 1)
    else if bytes_eq s (codes "weekdays") then Some Weekdays
    else if bytes_eq s (codes "weekly") then Some (Days 7)
    else if bytes_eq s (codes "biweekly") then Some (Days 14)
    else if bytes_eq s (codes "fortnight") then Some (Days 14)
    else None

unfoldable pub calendar_word_step : List ℕ → Option Step
calendar_word_step s =
    if bytes_eq s (codes "monthly") then Some (Months 1)
    else if bytes_eq s (codes "quarterly") then Some (Months 3)
    else if bytes_eq s (codes "semiannual") then Some (Months 6)
    else if bytes_eq s (codes "annual") then Some (Months 12)
    else if bytes_eq s (codes "yearly") then Some (Months 12)
    else if bytes_eq s (codes "biannual") then Some (Months 24)
    else if bytes_eq s (codes "biyearly") then Some (Months 24)
    else None

abbrev pub is_digit : ℕ → Bool
is_digit c = nat_le 48 c && nat_le c 57

abbrev pub is_first_digit : ℕ → Bool
is_first_digit c = nat_le 49 c && nat_le c 57

-- the number that one to three digits write, the first of which is not 0
unfoldable pub number_of : List ℕ → Option ℕ
number_of (a ∷ []) = if is_first_digit a then Some (a - 48) else None
number_of (a ∷ b ∷ []) = if is_first_digit a && is_digit b
    then Some ((a - 48) * 10 + (b - 48)) else None
number_of (a ∷ b ∷ c ∷ []) =
    if is_first_digit a && is_digit b && is_digit c
    then Some ((a - 48) * 100 + (b - 48) * 10 + (c - 48)) else None
number_of s = None

abbrev pub without_front : List ℕ → List ℕ → Option (List ℕ)
without_front front s = if bytes_eq (take (length front) s) front
    then Some (drop (length front) s) else None

abbrev pub without_back : List ℕ → List ℕ → Option (List ℕ)
without_back back s =
    if bytes_eq (drop (length s - length back) s) back
    then Some (take (length s - length back) s) else None

abbrev pub then_by : {A B : Type 0} → Option A → (A → Option B) → Option B
then_by None f = None
then_by (Some x) f = f x

-- the number that stands between two texts
unfoldable pub number_between : List ℕ → List ℕ → List ℕ → Option ℕ
number_between front back s =
    then_by (without_front front s) (λ rest. then_by (without_back back rest) number_of)

abbrev pub first_of_two : {A : Type 0} → Option A → Option A → Option A
first_of_two None b = b
first_of_two (Some a) b = Some a

-- the number with the short letters behind it, or between P and the long ones
unfoldable pub row_number : List ℕ → List ℕ → List ℕ → Option ℕ
row_number short long s =
    first_of_two (number_between [] short s) (number_between (codes "P") long s)

unfoldable pub row_step : (ℕ → Step) → List ℕ → List ℕ → List ℕ → Option Step
row_step step short long s = option_map step (row_number short long s)

-- the step that a text writes: the first row of the table that has it
-- Rule: a step is a word, or 1 to 999 with a unit. Refused as BadTask. Tried by steps.
unfoldable pub step_of : List ℕ → Option Step
step_of s =
    first_of_two (word_step s) (first_of_two (calendar_word_step s)
    (first_of_two (row_step Days (codes "d") (codes "D") s)
    (first_of_two (row_step (λ n. Days (7 * n)) (codes "w") (codes "W") s)
    (first_of_two (row_step Months (codes "mo") (codes "M") s)
    (row_step (λ n. Months (12 * n)) (codes "y") (codes "Y") s)))))
