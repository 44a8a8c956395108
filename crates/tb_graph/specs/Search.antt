-- The nodes that can be reached from one, and how a search marks them.
use Rattle.std.specs.Prelude.{◌≡◌, ◌↔◌, ℕ, Bool, true, if◌then◌else◌, List, [], ◌∷◌, ◌++◌, length, slice_set}
use Rattle.tb_graph.specs.Walk.{Graph, Reaches}
use Rattle.tb_graph.specs.Marks.{is_marked}

-- the marked nodes are those that can be reached from a node
pub record AreReached (g : Graph) (from : ℕ) (marks : List Bool) : Type 0 where
  pub size : length marks ≡ length g
  pub exact : (v : ℕ) → (is_marked marks v ≡ true) ↔ Reaches g from v

-- the marks after these targets
abbrev pub marks_after : List Bool → List ℕ → List Bool
marks_after marks [] = marks
marks_after marks (t ∷ ts) =
    marks_after (if is_marked marks t then marks else slice_set marks t true) ts

-- the nodes to look at after these targets: those that had no mark are new
abbrev pub work_after : List Bool → List ℕ → List ℕ → List ℕ
work_after marks work [] = work
work_after marks work (t ∷ ts) =
    if is_marked marks t then work_after marks work ts
    else work_after (slice_set marks t true) (work ++ t ∷ []) ts
