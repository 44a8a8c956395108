-- Tasks that depend on themselves over others.
use Rattle.std.specs.Prelude.{ℕ, zero, suc, Bool, List, [], ◌∷◌, ◌++◌, length, nat_lt, filter, map}
use Rattle.tb_graph.specs.Leads.{leads}
use Rattle.tb_graph.specs.Walk.{Graph}

-- the places that are those of nodes
abbrev pub within : ℕ → List ℕ → List ℕ
within n places = filter (λ place. nat_lt place n) places

abbrev pub graph_of : List (List ℕ) → Graph
graph_of links = map (within (length links)) links

-- for each of the first nodes whether it leads to itself
abbrev pub circles_to : Graph → ℕ → List Bool
circles_to g zero = []
circles_to g (suc n) = circles_to g n ++ leads g n n ∷ []

-- for each task whether it depends on itself
abbrev pub circles_of : List (List ℕ) → List Bool
circles_of links = circles_to (graph_of links) (length (graph_of links))
