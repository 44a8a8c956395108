-- Decimal numbers without a leading zero.
use Rattle.std.specs.Prelude.{ℕ, List, ◌&&◌, Option, Some, None, option_and_then, if◌then◌else◌, nat_lt, nat_le, slice_index}
use Rattle.std.specs.Str.{all_ascii_digits}
use Rattle.std.specs.Str.Parse.{digits_value}

-- the number that digits write, the first of them above zero
unfoldable pub numeral : List ℕ → Option ℕ
numeral text = if nat_lt 48 (slice_index text 0) && all_ascii_digits text
    then Some (digits_value 10 text) else None

-- such a number, up to a limit
abbrev pub number_to : ℕ → List ℕ → Option ℕ
number_to limit text = option_and_then (λ n. if nat_le n limit then Some n else None) (numeral text)
