-- Priorities in a line: a letter from A to Z between round brackets.
use Rattle.std.specs.Prelude.{ℕ, Bool, ◌&&◌, ◌==◌, nat_le, if◌then◌else◌, List, [], ◌∷◌, length, slice_index, Option, Some, None}
use Rattle.std.specs.Int.{IsInRange}
use Rattle.tb_task.specs.declared.priority.Priority.{Priority}
use Rattle.tb_task.specs.declared.priority.Priority.TheVariants.{High, Medium, Low}

abbrev pub IsLetter : ℕ → Type 0
IsLetter letter = IsInRange 65 90 letter

abbrev pub is_letter : ℕ → Bool
is_letter c = nat_le 65 c && nat_le c 90

-- `(A)` to `(Z)`
abbrev pub priority_word : ℕ → List ℕ
priority_word letter = 40 ∷ letter ∷ 41 ∷ []

-- the letter of such a word
unfoldable pub letter_of : List ℕ → Option ℕ
letter_of word =
    if (length word == 3) && (slice_index word 0 == 40) && (slice_index word 2 == 41)
    && is_letter (slice_index word 1) then Some (slice_index word 1)
    else None

-- the letter that stands for a task's priority
abbrev pub letter_for : Priority → ℕ
letter_for High = 65
letter_for Medium = 66
letter_for Low = 67
