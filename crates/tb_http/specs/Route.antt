-- The routes of the server, as `matchit` reads and keeps them.
use Rattle.std.specs.Prelude.{ℕ, Bool, false, not, List, [], ◌∷◌, codes, Result, Ok, Err, Option, is_some}
use Rattle.std.specs.Option.{option_map}
use Rattle.matchit.specs.Rows.{RowsOf}
use Rattle.matchit.specs.Route.{Scan, parse_route}
use Rattle.matchit.specs.Router.{RouteOf, route_from, nearest}
use Rattle.matchit.specs.Order.{placed}
use Rattle.matchit.specs.Seek.{first}
use Rattle.matchit.specs.declared.error.InsertError.{InsertError}
use Rattle.tb_http.specs.declared.kind.BoardCall.TheVariants.{Add, Sweep, Ahead, Title, Import, ImportTodo}
use Rattle.tb_http.specs.declared.kind.BoardView.TheVariants.{List as ListTasks, Export, Todo, People as PeopleOn, History}
use Rattle.tb_http.specs.declared.kind.Kind.{Kind}
use Rattle.tb_http.specs.declared.kind.Kind.TheVariants.{Me, BoardView, Task, HistoryFrom, TaskHistory, People, OwnKey, PersonKey, Boards, Roles, Take, BoardCall, TaskCall}
use Rattle.tb_http.specs.declared.kind.TaskCall.TheVariants.{Done, Delete, Reopen, Start, Stop, Modify, Annotate, Denotate, Depend, Undepend}
use Rattle.tb_http.specs.declared.route.Verb.{Verb}
use Rattle.tb_http.specs.declared.route.Verb.TheVariants.{Get, Post}

-- the table: the form of the paths, and what they ask for; first those without the number of a board
abbrev pub alone_routes : List (List ℕ × Kind)
alone_routes =
    (codes "/people", People)
    ∷ (codes "/boards", Boards)
    ∷ (codes "/me", Me)
    ∷ (codes "/me/key", OwnKey)
    ∷ (codes "/people/{name}/key", PersonKey)
    ∷ []

abbrev pub board_routes : List (List ℕ × Kind)
board_routes =
    (codes "/boards/{b}/roles", Roles)
    ∷ (codes "/boards/{b}/take", Take)
    ∷ (codes "/boards/{b}/tasks", BoardCall Add)
    ∷ (codes "/boards/{b}/sweep", BoardCall Sweep)
    ∷ (codes "/boards/{b}/ahead", BoardCall Ahead)
    ∷ (codes "/boards/{b}/title", BoardCall Title)
    ∷ (codes "/boards/{b}/import", BoardCall Import)
    ∷ (codes "/boards/{b}/import-todo", BoardCall ImportTodo)
    ∷ (codes "/boards/{b}/list", BoardView ListTasks)
    ∷ (codes "/boards/{b}/export", BoardView Export)
    ∷ (codes "/boards/{b}/todo", BoardView Todo)
    ∷ (codes "/boards/{b}/people", BoardView PeopleOn)
    ∷ (codes "/boards/{b}/history", BoardView History)
    ∷ (codes "/boards/{b}/history/{n}", HistoryFrom)
    ∷ []

abbrev pub task_routes : List (List ℕ × Kind)
task_routes =
    (codes "/boards/{b}/tasks/{uuid}", Task)
    ∷ (codes "/boards/{b}/tasks/{uuid}/done", TaskCall Done)
    ∷ (codes "/boards/{b}/tasks/{uuid}/delete", TaskCall Delete)
    ∷ (codes "/boards/{b}/tasks/{uuid}/reopen", TaskCall Reopen)
    ∷ (codes "/boards/{b}/tasks/{uuid}/start", TaskCall Start)
    ∷ (codes "/boards/{b}/tasks/{uuid}/stop", TaskCall Stop)
    ∷ (codes "/boards/{b}/tasks/{uuid}/modify", TaskCall Modify)
    ∷ (codes "/boards/{b}/tasks/{uuid}/annotate", TaskCall Annotate)
    ∷ (codes "/boards/{b}/tasks/{uuid}/denotate", TaskCall Denotate)
    ∷ (codes "/boards/{b}/tasks/{uuid}/depend", TaskCall Depend)
    ∷ (codes "/boards/{b}/tasks/{uuid}/undepend", TaskCall Undepend)
    ∷ (codes "/boards/{b}/tasks/{uuid}/history", TaskHistory)
    ∷ []

abbrev pub verb_name : Verb → List ℕ
verb_name Get = codes "GET"
verb_name Post = codes "POST"

abbrev pub RouteRows : Type 0
RouteRows = RowsOf (RouteOf Kind)

-- the router's rows with one more, whose text was read
abbrev pub with_row : Result Scan InsertError → Kind → RouteRows → RouteRows
with_row (Ok scan) kind rows = placed ((route_from scan kind).pattern, route_from scan kind) rows
with_row (Err e) kind rows = rows

unfoldable pub with_route : List ℕ → Kind → RouteRows → RouteRows
with_route text kind rows = with_row (parse_route text) kind rows

-- the router takes a route: its text reads well, and no row conflicts with it
abbrev pub row_fits : Result Scan InsertError → RouteRows → Bool
row_fits (Ok scan) rows = not (is_some (nearest scan.pattern rows))
row_fits (Err e) rows = false

unfoldable pub fits : List ℕ → RouteRows → Bool
fits text rows = row_fits (parse_route text) rows

-- with a table of routes
abbrev pub with_routes : List (List ℕ × Kind) → RouteRows → RouteRows
with_routes [] rows = rows
with_routes (row ∷ table) rows = with_routes table (with_route row.0 row.1 rows)

unfoldable pub alone_rows : RouteRows
alone_rows = with_routes alone_routes []

unfoldable pub board_rows : RouteRows
board_rows = with_routes board_routes alone_rows

-- the whole table
unfoldable pub route_rows : RouteRows
route_rows = with_routes task_routes board_rows

abbrev pub route_value : RouteOf Kind → Kind
route_value row = row.value

-- the kind of the route that the router finds for a path
-- Rule: a target is compared whole and undecoded. Refused as NoRoute. Tried by no_route.
abbrev pub kind_of : List ℕ → Option Kind
kind_of path = option_map route_value (first route_rows path)
