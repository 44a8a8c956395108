-- What a query finds that shows no more than so many rows.
use Rattle.std.specs.Prelude.{◌≡◌, ◌+◌, ◌-◌, ℕ, List, [], ◌∷◌, drop, length, Option, Some, None, ⊤}
use Rattle.tb_sql_tables.specs.Found.{AreFound}

-- the last so many of a list
abbrev pub last_of : {X : Type 0} → ℕ → List X → List X
last_of count xs = drop (length xs - count) xs

-- What is found is the last of all that would be found without a limit.
pub record AreLast {X : Type 0} (IsBefore : X → X → Type 0) (count : ℕ) (rows found : List X)
    : Type 0 where
  pub all : List X
  pub whole : AreFound IsBefore rows all
  pub last : found ≡ last_of count all

-- the one that there may be, as a list
abbrev pub listed : {X : Type 0} → Option X → List X
listed None = []
listed (Some x) = x ∷ []

-- these have the numbers from this one on, without a gap
abbrev pub AreNumberedFrom : {X : Type 0} → (X → ℕ) → ℕ → List X → Type 0
AreNumberedFrom key n [] = ⊤
AreNumberedFrom key n (x ∷ xs) = (key x ≡ n) × AreNumberedFrom key (n + 1) xs
