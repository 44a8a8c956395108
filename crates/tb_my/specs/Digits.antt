-- Digits of a text.
use Rattle.std.specs.Prelude.{ℕ, ◌+◌, ◌-◌, ◌*◌, ◌&&◌, nat_le, nat_lt, Option, Some, None, if◌then◌else◌}

abbrev pub digit_of : ℕ → Option ℕ
digit_of byte = if nat_le 48 byte && nat_le byte 57 then Some (byte - 48) else None

abbrev pub two_with : Option ℕ → Option ℕ → Option ℕ
two_with None units = None
two_with (Some tens) None = None
two_with (Some tens) (Some units) = Some (tens * 10 + units)

-- two digits
abbrev pub two_in : ℕ → ℕ → Option ℕ
two_in tens units = two_with (digit_of tens) (digit_of units)

abbrev pub below : ℕ → Option ℕ → Option ℕ
below limit None = None
below limit (Some n) = if nat_lt n limit then Some n else None
