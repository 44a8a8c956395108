-- Nodes that wait for others. A graph links each node to those that it depends on; some nodes are open.
use Rattle.std.specs.Prelude.{◌≡◌, ◌≢◌, ◌↔◌, ℕ, ◌<◌, ◌==◌, Bool, true, not, ◌&&◌, if◌then◌else◌, List, [], ◌∷◌, length, slice_index_or, slice_set}
use Rattle.std.specs.List.{list_any}
use Rattle.tb_graph.specs.Walk.{Graph, IsLink}
use Rattle.tb_graph.specs.Marks.{is_marked}

-- open, and linked to an open node
abbrev pub is_blocked : Graph → List Bool → ℕ → Bool
is_blocked g are_open v =
    is_marked are_open v && list_any (is_marked are_open) (slice_index_or g v [])

-- open, and another node that is open is linked to it
abbrev pub IsBlocking : Graph → List Bool → ℕ → Type 0
IsBlocking g are_open w =
    (is_marked are_open w ≡ true) × (v : ℕ) × (v ≢ w) × (v < length g)
    × (is_marked are_open v ≡ true) × IsLink g v w

-- for each node whether it is blocking
pub record AreBlocking (g : Graph) (are_open : List Bool) (marks : List Bool) : Type 0 where
  pub size : length marks ≡ length g
  pub each : (w : ℕ) → (is_marked marks w ≡ true) ↔ IsBlocking g are_open w

-- another node than v that is open
abbrev pub is_other_open : List Bool → ℕ → ℕ → Bool
is_other_open are_open v w = not (w == v) && is_marked are_open w

-- the marks after these nodes: those that pass the test are marked too
abbrev pub marks_where : (ℕ → Bool) → List Bool → List ℕ → List Bool
marks_where test marks [] = marks
marks_where test marks (t ∷ ts) =
    marks_where test (if test t then slice_set marks t true else marks) ts
