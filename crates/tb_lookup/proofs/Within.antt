-- Things that are numbered from 1.
use Rattle.std.specs.Prelude.{◌≤◌, ◌<◌, ℕ, Bool, true, false}

-- there is one of this number exactly where there are so many
abbrev pub IsWithin : ℕ → ℕ → Bool → Type 0
IsWithin n count true = n ≤ count
IsWithin n count false = count < n
