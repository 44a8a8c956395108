-- Decimal numerals.
use Rattle.std.specs.Prelude.{ℕ, ◌==◌, Bool, not, ◌&&◌, if◌then◌else◌, List, [], ◌∷◌, length}
use Rattle.std.specs.List.{list_all}
use Rattle.std.specs.Str.{bytes_eq}
use Rattle.std.specs.Char.{is_ascii_digit}

-- decimal digits, and at least one
abbrev pub is_number : List ℕ → Bool
is_number text = not (length text == 0) && list_all is_ascii_digit text

-- the digits from the first that is no zero
abbrev pub significant : List ℕ → List ℕ
significant [] = []
significant (digit ∷ digits) = if digit == 48 then significant digits else digit ∷ digits

-- two numerals of one number
abbrev pub same_number : List ℕ → List ℕ → Bool
same_number a b = bytes_eq (significant a) (significant b)
