-- Which tasks of a board are blocked, and which are blocking.
use Rattle.std.specs.Prelude.{ℕ, ◌==◌, Bool, false, not, ◌&&◌, List, [], Option, Some, None, length, map, slice_index_or}
use Rattle.std.specs.List.{list_any, range_with_len}
use Rattle.tb_graph.specs.Blocked.{is_blocked}
use Rattle.tb_graph.specs.Marks.{is_marked}
use Rattle.tb_graph.specs.Walk.{Graph}
use Rattle.tb_task.specs.declared.task.Task.{Task}
use Rattle.tb_board.specs.declared.board.Board.{Board}
use Rattle.tb_board.specs.Tasks.{ids, place_in}
use Rattle.tb_board.specs.Links.{depends_of, links}
use Rattle.tb_board.specs.Statuses.{is_open}

-- for each task whether it is neither completed nor deleted
abbrev pub are_open : List Task → List Bool
are_open ts = map (λ (t : Task). is_open t.status) ts

-- for each task whether it is blocked: it is open, and depends on an open one
-- Rule: completed and deleted tasks block nothing. Tried by cycle.
abbrev pub blocked : Board → List Bool
blocked b = map (is_blocked (links b) (are_open b.tasks)) (range_with_len 0 (length b.tasks))

abbrev pub has_link : Graph → ℕ → ℕ → Bool
has_link g v w = list_any (λ t. t == w) (slice_index_or g v [])

-- the node v is another one than w, open and linked to it
abbrev pub is_blocked_by : Graph → List Bool → ℕ → ℕ → Bool
is_blocked_by g are_open w v = not (v == w) && (is_marked are_open v && has_link g v w)

abbrev pub is_blocking : Graph → List Bool → ℕ → Bool
is_blocking g are_open w =
    is_marked are_open w && list_any (is_blocked_by g are_open w) (range_with_len 0 (length g))

-- for each task whether it is blocking: it is open, and another open one depends on it
abbrev pub blocking : Board → List Bool
blocking b = map (is_blocking (links b) (are_open b.tasks)) (range_with_len 0 (length b.tasks))

-- a place that is there passes the test
abbrev pub passes : (ℕ → Bool) → Option ℕ → Bool
passes test None = false
passes test (Some place) = test place

-- the first of these tasks that has the identifier is open
abbrev pub is_open_by_id : List Task → ℕ → Bool
is_open_by_id ts id = passes (is_marked (are_open ts)) (place_in (ids ts) id)

-- it stands at this place
abbrev pub is_first : List Task → ℕ → ℕ → Bool
is_first ts id place = passes (λ first. first == place) (place_in (ids ts) id)

abbrev pub depends_on : ℕ → Task → Bool
depends_on id t = list_any (λ on. on == id) t.depends

abbrev pub is_open_on : ℕ → Task → Bool
is_open_on id t = is_open t.status && depends_on id t

-- the task at another place than this one is open and depends on the identifier
abbrev pub is_held : List Task → ℕ → ℕ → ℕ → Bool
is_held ts id place other =
    not (other == place)
    && (is_marked (are_open ts) other
    && list_any (λ on. on == id) (slice_index_or (depends_of ts) other []))

-- the task is open, and depends on an open one among these
abbrev pub is_blocked_among : List Task → Task → Bool
is_blocked_among ts t = is_open t.status && list_any (is_open_by_id ts) t.depends

-- the task at this place is open and the first of its identifier, and an open one among these depends on that
abbrev pub is_blocking_among : List Task → ℕ → Task → Bool
is_blocking_among ts place t =
    is_open t.status
    && (is_first ts t.id place && list_any (is_held ts t.id place) (range_with_len 0 (length ts)))
