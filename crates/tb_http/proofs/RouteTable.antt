-- The routes of the table don't conflict.
use Rattle.std.proofs.Common.{ℕ, List, [], ◌∷◌, IsTrue, refl}
use Rattle.matchit.proofs.OnLiterals.{matchit_on_literals}
use Rattle.tb_http.specs.declared.kind.Kind.{Kind}
use Rattle.tb_http.specs.Route.{RouteRows, with_route, fits, alone_routes, alone_rows, board_routes, board_rows, task_routes}

-- each route of a table fits the rows and those before it
abbrev AllFit : List (List ℕ × Kind) → RouteRows → Type 0
AllFit [] rows = Unit {0}
AllFit (row ∷ table) rows = IsTrue (fits row.0 rows) × AllFit table (with_route row.0 row.1 rows)

pub alone_fit : AllFit alone_routes []
unfolding matchit_on_literals fits with_route
alone_fit = (refl, (refl, (refl, (refl, (refl, tt)))))

pub boards_fit : AllFit board_routes alone_rows
unfolding matchit_on_literals fits with_route alone_rows
boards_fit = (refl, (refl, (refl, (refl, (refl, (refl, (refl, (refl, (refl, (refl, (refl, (refl, (refl, (refl, tt))))))))))))))

pub tasks_fit : AllFit task_routes board_rows
unfolding matchit_on_literals fits with_route alone_rows board_rows
tasks_fit = (refl, (refl, (refl, (refl, (refl, (refl, (refl, (refl, (refl, (refl, (refl, (refl, tt))))))))))))
