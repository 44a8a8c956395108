-- A reader whose reads are counted, and the writes that answer it.
use Rattle.std.specs.Prelude.{◌≡◌, ◌⊎◌, ◌≤◌, ◌<◌, ℕ, Bool, true, List, Option, length}

-- what it still gives, if that is known, how many reads were taken of it, whether one has failed, and whether a write has
pub record Watching : Type 0 where
  pub left : Option (List ℕ)
  pub reads : ℕ
  pub read_failed : Bool
  pub write_failed : Bool

-- how many reads a script may take
abbrev pub most_reads : ℕ
most_reads = 1099511627776

-- a read of it has failed, or so many were taken
abbrev pub IsSpent : Watching → Type 0
IsSpent w = (w.read_failed ≡ true) ⊎ (most_reads ≤ w.reads)

-- the whole text was read, or more of it than so many bytes
abbrev pub IsWholeOrLong : ℕ → List ℕ → List ℕ → Type 0
IsWholeOrLong most text read = (read ≡ text) ⊎ ((most < length read) × (most < length text))
