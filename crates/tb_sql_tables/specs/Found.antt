-- What a query finds among the rows of a table.
use Rattle.std.specs.Prelude.{◌≡◌, List, [], Option, Some, None, Contains, IsPermutation}
use Rattle.sqlite_trees.specs.Tree.{IsAscending}

-- These rows are found, and where they can stand in strict order, in that order.
pub record AreFound {X : Type 0} (IsBefore : X → X → Type 0) (rows found : List X) : Type 0 where
  pub same : IsPermutation rows found
  pub in_order : (ordered : List X) → IsPermutation ordered rows → IsAscending IsBefore ordered
      → found ≡ ordered

-- one of the rows is found, if there is one
abbrev pub IsOneOf : {X : Type 0} → List X → Option X → Type 0
IsOneOf rows None = rows ≡ []
IsOneOf rows (Some found) = Contains rows found
