-- The text of places, line by line.
use Rattle.std.proofs.Common.{◌≡◌, ℕ, List, Option, Some, IfSome}
use Rattle.std.specs.Fmt.{◌++?◌}

-- the text so far, and what is left to write
abbrev pub IsOnTheWay : Option (List ℕ) → List ℕ → Option (List ℕ) → Type 0
IsOnTheWay all text rest = IfSome all (λ whole. Some text ++? rest ≡ Some whole)
