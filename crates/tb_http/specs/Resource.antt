-- What a request asks for: its path names a resource, by the route that it has and by its segments, and its method is the resource's.
use Rattle.std.specs.Prelude.{ℕ, ◌==◌, Bool, if◌then◌else◌, List, [], Option, Some, None, Result, Ok, Err}
use Rattle.std.specs.Option.{option_map, unwrap_or}
use Rattle.std.specs.List.{slice_split, slice_get}
use Rattle.std.specs.Str.{bytes_eq}
use Rattle.tb_task.specs.TaskId.{read_id}
use Rattle.tb_board.specs.Names.{read_name}
use Rattle.tb_http.specs.declared.fault.WireFault.{WireFault}
use Rattle.tb_http.specs.declared.fault.WireFault.TheVariants as wire
use Rattle.tb_http.specs.declared.kind.Kind.{Kind}
use Rattle.tb_http.specs.declared.kind.Kind.TheVariants.{Me, BoardView, Task, HistoryFrom, TaskHistory, People, OwnKey, PersonKey, Boards, Roles, Take, BoardCall, TaskCall}
use Rattle.tb_http.specs.declared.resource.CallTarget.TheVariants as target
use Rattle.tb_http.specs.declared.resource.Resource.{Resource}
use Rattle.tb_http.specs.declared.resource.Resource.TheVariants as resource
use Rattle.tb_http.specs.declared.resource.RouteFault.{RouteFault}
use Rattle.tb_http.specs.declared.resource.RouteFault.TheVariants.{NoRoute, NoMethod}
use Rattle.tb_http.specs.declared.route.Verb.{Verb}
use Rattle.tb_http.specs.declared.route.Verb.TheVariants.{Get, Post}
use Rattle.tb_values.specs.Numerals.{number_to}
use Rattle.tb_http.specs.Route.{verb_name, kind_of}

-- the part of a path after so many slashes, up to the next one
abbrev pub segment : List ℕ → ℕ → List ℕ
segment path slashes = unwrap_or (slice_get (slice_split (λ byte. byte == 47) path) slashes) []

-- from 1 to 4294967295, with no zero in front
unfoldable pub board_number : List ℕ → Option ℕ
board_number text = number_to 4294967295 text

-- `/people/{name}`
abbrev pub person_in : List ℕ → Option (List ℕ)
person_in path = read_name (segment path 2)

-- `/boards/{b}`, then `/tasks/{uuid}`
abbrev pub board_in : List ℕ → Option ℕ
board_in path = board_number (segment path 2)

-- or `/history/{n}`
abbrev pub entry_in : List ℕ → Option ℕ
entry_in path = board_number (segment path 4)

abbrev pub task_in : List ℕ → Option ℕ
task_in path = read_id (segment path 4)

-- a resource of a board and of something of it, a task or an entry
abbrev pub of_both : (ℕ → ℕ → Resource) → Option ℕ → Option ℕ → Option Resource
of_both resource (Some board) (Some part) = Some (resource board part)
of_both resource (Some board) None = None
of_both resource None part = None

-- what a path of this kind asks for, if its parts can be read
unfoldable pub resource_of : Kind → List ℕ → Option Resource
resource_of Me path = Some resource.Me
resource_of (BoardView view) path = option_map (λ board. resource.Board board view) (board_in path)
resource_of Task path = of_both resource.Task (board_in path) (task_in path)
resource_of HistoryFrom path = of_both resource.HistoryFrom (board_in path) (entry_in path)
resource_of TaskHistory path = of_both resource.TaskHistory (board_in path) (task_in path)
resource_of People path = Some (resource.Call target.People)
resource_of OwnKey path = Some (resource.Call target.OwnKey)
resource_of PersonKey path =
    option_map (λ name. resource.Call (target.PersonKey name)) (person_in path)
resource_of Boards path = Some (resource.Call target.Boards)
resource_of Roles path = option_map (λ board. resource.Call (target.Roles board)) (board_in path)
resource_of Take path = option_map (λ board. resource.Call (target.Take board)) (board_in path)
resource_of (BoardCall call) path =
    option_map (λ board. resource.Call (target.Board board call)) (board_in path)
resource_of (TaskCall call) path =
    of_both (λ board task. resource.Call (target.Task board task call))
    (board_in path) (task_in path)

-- the one method by which a resource is asked for
abbrev pub verb_of : Resource → Verb
verb_of resource.Me = Get
verb_of (resource.Board board view) = Get
verb_of (resource.Task board task) = Get
verb_of (resource.HistoryFrom board number) = Get
verb_of (resource.TaskHistory board task) = Get
verb_of (resource.Call target) = Post

abbrev pub has_verb : List ℕ → Verb → Bool
has_verb method verb = bytes_eq method (verb_name verb)

-- a readable path of another method
abbrev pub with_method : List ℕ → Option Resource → Result Resource RouteFault
with_method method None = Err NoRoute
with_method method (Some resource) = if has_verb method (verb_of resource) then Ok resource
    else Err (NoMethod (verb_of resource))

abbrev pub on_route : List ℕ → List ℕ → Option Kind → Result Resource RouteFault
on_route method path None = Err NoRoute
on_route method path (Some kind) = with_method method (resource_of kind path)

-- the fault of the wire that it is, and the method that the answer allows
abbrev pub fault_of : RouteFault → WireFault
fault_of NoRoute = wire.NoRoute
fault_of (NoMethod verb) = wire.NoMethod

abbrev pub allowed_by : RouteFault → Option Verb
allowed_by NoRoute = None
allowed_by (NoMethod verb) = Some verb

-- the resource that a method and a target ask for, or why they ask for none
-- Rule: a path has one method. Refused as NoRoute or NoMethod. Tried by paths.
abbrev pub resource_asked : List ℕ → List ℕ → Result Resource RouteFault
resource_asked method target = on_route method target (kind_of target)
