-- How many instances ahead a board looks.
use Rattle.std.specs.Prelude.{ℕ, Bool, ◌&&◌, Option, Some, None, if◌then◌else◌, nat_le}

abbrev pub most_ahead : ℕ
most_ahead = 12

-- from 1 to the most
-- Rule: a board looks 1 to 12 instances ahead. Refused as BadBody. Tried by ahead_bodies.
abbrev pub is_ahead : ℕ → Bool
is_ahead n = nat_le 1 n && nat_le n most_ahead

abbrev pub read_ahead : ℕ → Option ℕ
read_ahead n = if is_ahead n then Some n else None
