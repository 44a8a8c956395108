-- Which tasks of a board depend on which, by their places.
use Rattle.std.specs.Prelude.{ℕ, Bool, false, List, [], ◌∷◌, Option, Some, None, map}
use Rattle.tb_graph.specs.Walk as walk
use Rattle.tb_graph.specs.Walk.{Graph}
use Rattle.tb_graph.specs.Leads.{leads}
use Rattle.tb_task.specs.declared.task.Task.{Task}
use Rattle.tb_board.specs.declared.board.Board.{Board}
use Rattle.tb_board.specs.Tasks.{ids, place_in}

abbrev pub with_place : Option ℕ → List ℕ → List ℕ
with_place None places = places
with_place (Some place) places = place ∷ places

-- the places of those that are there
abbrev pub places_in : List ℕ → List ℕ → List ℕ
places_in all [] = []
places_in all (id ∷ rest) = with_place (place_in all id) (places_in all rest)

abbrev pub depends_of : List Task → List (List ℕ)
depends_of ts = map (λ (t : Task). t.depends) ts

-- for each task the places of the tasks on which it depends, of those that are on the board
unfoldable pub links : Board → Graph
links b = map (places_in (ids b.tasks)) (depends_of b.tasks)

-- no task depends on itself, by whichever other ones
abbrev pub IsAcyclic : Board → Type 0
IsAcyclic b = walk.IsAcyclic (links b)

abbrev pub leads_between : Graph → Option ℕ → Option ℕ → Bool
leads_between g None to = false
leads_between g (Some from) None = false
leads_between g (Some from) (Some to) = leads g from to

-- one task depends on another, directly or by other ones
abbrev pub leads_on : Board → ℕ → ℕ → Bool
leads_on b from to =
    leads_between (links b) (place_in (ids b.tasks) from) (place_in (ids b.tasks) to)
