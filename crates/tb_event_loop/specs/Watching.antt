-- When the loop looks whether what is served is still there.
use Rattle.std.specs.Prelude.{◌≡◌, ◌≢◌, ◌⊎◌, ℕ, Bool, true, false, List, [], ◌∷◌}

module _ {P : Type 0} (looks : List Bool → P → P → Type 0) where
  -- In a new millisecond it looked once, and it was there. In the same one it didn't look.
  abbrev pub FindsThere : ℕ → ℕ → P → P → Type 0
  FindsThere before now old new =
      ((now ≡ before) × (new ≡ old)) ⊎ ((now ≢ before) × looks (true ∷ []) old new)

  -- In a new millisecond it looked once, and it was gone.
  abbrev pub FindsGone : ℕ → ℕ → P → P → Type 0
  FindsGone before now old new = (now ≢ before) × looks (false ∷ []) old new
