-- In which order tasks are brought: each after those that it waits for, where that can be.
use Rattle.std.specs.Prelude.{ℕ, ◌+◌, Bool, true, false, not, ◌&&◌, ◌||◌, List, [], ◌∷◌, ◌++◌, Option, Some, None, is_some, map, slice_get, slice_set, if◌then◌else◌}
use Rattle.std.specs.List.{list_all}
use Rattle.tb_graph.specs.Marks.{is_marked}
use Rattle.tb_task.specs.Step.{first_of_two}
use Rattle.tb_task.specs.declared.incoming.Incoming.{Incoming}
use Rattle.tb_cleaning.specs.Entries.{Judged, id_of, taken_in}
use Rattle.tb_cleaning.specs.Places.{waits_of, with_place}

-- not brought yet, and all that it waits for is
abbrev pub is_ready : List Bool → ℕ → List ℕ → Bool
is_ready done place waits = not (is_marked done place) && list_all (is_marked done) waits

-- the first that is ready, of places from k on
abbrev pub ready_from : List Bool → ℕ → List (List ℕ) → Option ℕ
ready_from done k [] = None
ready_from done k (waits ∷ all) = if is_ready done k waits then Some k
    else ready_from done (k + 1) all

-- the first that isn't brought yet and passes
abbrev pub left_from : List Bool → ℕ → List Bool → Option ℕ
left_from done k [] = None
left_from done k (passes ∷ all) = if passes && not (is_marked done k) then Some k
    else left_from done (k + 1) all

-- Tasks wait for each other in a circle over a template alone: there the first template goes before what it waits for.
-- Rule: cleaning brings each task after those that it waits for. Tried by own_cleaning.sh.
abbrev pub next_of : List (List ℕ) → List Bool → List Bool → Option ℕ
next_of waits templates done =
    first_of_two (ready_from done 0 waits)
    (first_of_two (left_from done 0 templates) (left_from done 0 (map not done)))

abbrev pub marked : List Bool → Option ℕ → List Bool
marked done None = done
marked done (Some place) = slice_set done place true

-- so many more after those found, as many as the last list has, if there are
abbrev pub order_on : List (List ℕ) → List Bool → List ℕ → List Bool → List (List ℕ) → List ℕ
order_on waits templates found done [] = found
order_on waits templates found done (one ∷ more) =
    order_on waits templates (with_place found (next_of waits templates done))
    (marked done (next_of waits templates done)) more

abbrev pub is_template : Option Incoming → Bool
is_template None = false
is_template (Some i) = is_some i.task.recur && not (is_some i.raw_parent || is_some i.raw_imask)

abbrev pub has_instances : Judged → Bool
has_instances e = is_template (taken_in e.verdict)

-- a task that isn't taken isn't brought
abbrev pub is_left_out : Judged → Bool
is_left_out e = not (is_some (taken_in e.verdict))

abbrev pub order_by : List Judged → List (List ℕ) → List ℕ
order_by es waits = order_on waits (map has_instances es) [] (map is_left_out es) waits

-- the places of the tasks that are taken, as they are brought
abbrev pub order_of : List Judged → List ℕ
order_of es = order_by es (map (waits_of (map id_of es)) es)

abbrev pub with_entry : List Judged → Option Judged → List Judged
with_entry found None = found
with_entry found (Some e) = found ++ e ∷ []

abbrev pub picked_on : List Judged → List Judged → List ℕ → List Judged
picked_on es found [] = found
picked_on es found (place ∷ places) = picked_on es (with_entry found (slice_get es place)) places

-- the tasks that are brought
abbrev pub brought : List Judged → List Judged
brought es = picked_on es [] (order_of es)
