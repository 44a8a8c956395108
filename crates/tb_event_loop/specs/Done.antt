-- What was done to the connections of a service.
use Rattle.std.specs.Prelude.{ℕ, ◌+◌, List, [], ◌∷◌}

-- what was done to the connection of a place
pub data Done : Type 0 where
  -- the one that was there ended, and another may be opened
  opened : Done
  -- these bytes came
  came : List ℕ → Done
  -- it had its turn
  turned : Done
  -- so many bytes of its answer went
  went : ℕ → Done

abbrev pub ends_one : Done → ℕ
ends_one opened = 1
ends_one _ = 0

-- How many connections ended: each leaves its place when it has ended, and only then.
abbrev pub ends_in : List (ℕ × Done) → ℕ
ends_in [] = 0
ends_in (done ∷ history) = ends_one done.1 + ends_in history
