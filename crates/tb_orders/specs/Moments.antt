-- The moment of an order.
use Rattle.std.specs.Prelude.{ℕ, List, [], ◌∷◌, Option, Some}

-- a clock gave this moment, and no other
abbrev pub GaveOne : {C : Type 0} → (List (Option ℕ) → C → C → Type 0) → C → C → ℕ → Type 0
GaveOne gives clock later at = gives (Some at ∷ []) clock later
