-- Taking off nodes, each after those that are linked to it, and the counts of links that this goes by.
use Rattle.std.specs.Prelude.{◌≡◌, ℕ, ◌+◌, ◌-◌, ◌<◌, ◌==◌, Bool, true, false, if◌then◌else◌, List, [], ◌∷◌, ◌++◌, length, slice_index, slice_set}
use Rattle.tb_graph.specs.Walk.{Graph, Reaches}
use Rattle.tb_graph.specs.Marks.{is_marked}

abbrev pub occurrences : ℕ → List ℕ → ℕ
occurrences v [] = 0
occurrences v (t ∷ ts) = (if t == v then 1 else 0) + occurrences v ts

-- the links to v from the nodes without a mark
abbrev pub incoming : Graph → List Bool → ℕ → ℕ
incoming [] marks v = 0
incoming (ts ∷ g) [] v = occurrences v ts + incoming g [] v
incoming (ts ∷ g) (m ∷ ms) v = (if m then 0 else occurrences v ts) + incoming g ms v

-- for each node how many links lead to it from the nodes without a mark
pub record AreCounts (g : Graph) (marks : List Bool) (counts : List ℕ) : Type 0 where
  pub size : length counts ≡ length g
  pub each : (v : ℕ) → v < length g → slice_index counts v ≡ incoming g marks v

-- the marked nodes are on no closed walk, and each other has a link from a node without a mark
pub record AreTaken (g : Graph) (marks : List Bool) : Type 0 where
  pub size : length marks ≡ length g
  pub clean : (v : ℕ) → is_marked marks v ≡ true → Reaches g v v → ⊥
  pub rest : (v : ℕ) → v < length g → is_marked marks v ≡ false → (incoming g marks v ≡ 0) → ⊥

-- the counts with one more for each of these targets
abbrev pub counts_with : List ℕ → List ℕ → List ℕ
counts_with counts [] = counts
counts_with counts (t ∷ ts) = counts_with (slice_set counts t (slice_index counts t + 1)) ts

-- the counts with one less for each of these targets
abbrev pub counts_without : List ℕ → List ℕ → List ℕ
counts_without counts [] = counts
counts_without counts (t ∷ ts) = counts_without (slice_set counts t (slice_index counts t - 1)) ts

-- the work after these targets: those that have no link left are new
abbrev pub work_without : List ℕ → List ℕ → List ℕ → List ℕ
work_without counts work [] = work
work_without counts work (t ∷ ts) =
    if slice_index counts t - 1 == 0
    then work_without (slice_set counts t (slice_index counts t - 1)) (work ++ t ∷ []) ts
    else work_without (slice_set counts t (slice_index counts t - 1)) work ts
