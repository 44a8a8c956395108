-- Marks on numbered nodes.
use Rattle.std.specs.Prelude.{◌≡◌, ℕ, ◌<◌, Bool, false, List, length, slice_index_or}

abbrev pub is_marked : List Bool → ℕ → Bool
is_marked marks v = slice_index_or marks v false

-- for each node below n whether it passes the test
pub record AreMarks (n : ℕ) (test : ℕ → Bool) (marks : List Bool) : Type 0 where
  pub size : length marks ≡ n
  pub each : (v : ℕ) → v < n → is_marked marks v ≡ test v
