-- Walks over numbered nodes. A graph is the list of each node's targets, so a link leads from a node to each of its targets.
use Rattle.std.specs.Prelude.{◌≡◌, ◌⊎◌, ℕ, ◌<◌, List, [], ◌∷◌, length, slice_index_or}

abbrev pub Graph : Type 0
Graph = List (List ℕ)

abbrev pub IsIn : ℕ → List ℕ → Type 0
IsIn x [] = ⊥
IsIn x (y ∷ ys) = (y ≡ x) ⊎ IsIn x ys

abbrev pub IsLink : Graph → ℕ → ℕ → Type 0
IsLink g a b = IsIn b (slice_index_or g a [])

-- from a over these nodes, each linked to the next, to b
abbrev pub IsWalk : Graph → ℕ → List ℕ → ℕ → Type 0
IsWalk g a [] b = IsLink g a b
IsWalk g a (c ∷ cs) b = IsLink g a c × IsWalk g c cs b

-- there is a walk of one link or more
abbrev pub Reaches : Graph → ℕ → ℕ → Type 0
Reaches g a b = (over : List ℕ) × IsWalk g a over b

-- no walk leads from a node to itself
abbrev pub IsAcyclic : Graph → Type 0
IsAcyclic g = (a : ℕ) → Reaches g a a → ⊥

-- each target is a node
abbrev pub IsWellFormed : Graph → Type 0
IsWellFormed g = (a b : ℕ) → IsLink g a b → b < length g
