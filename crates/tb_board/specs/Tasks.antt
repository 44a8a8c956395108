-- Tasks by themselves, and lists of them.
use Rattle.std.specs.Prelude.{◌≡◌, ℕ, ◌==◌, Bool, true, false, ◌&&◌, List, Option, Some, None, if◌then◌else◌, nat_le, map, position}
use Rattle.std.specs.BTreeMap.{BTreeMap, get}
use Rattle.std.specs.Ordering.{nat_cmp}
use Rattle.tb_task.specs.declared.task.Task.{Task}
use Rattle.tb_task.specs.declared.status.Status.{Status}
use Rattle.tb_task.specs.declared.status.Status.TheVariants.{Pending, Waiting, Recurring, Completed, Deleted}

-- a wait that is over at m
abbrev pub has_come : Option ℕ → ℕ → Bool
has_come None m = false
has_come (Some wait) m = nat_le wait m

abbrev pub is_waiting : Status → Bool
is_waiting Waiting = true
is_waiting Pending = false
is_waiting Recurring = false
is_waiting Completed = false
is_waiting Deleted = false

-- a task that waited until m
-- Rule: a task wakes at the moment of its wait. Tried by waiting_until_now.
unfoldable pub wakes : ℕ → Task → Bool
wakes m t = is_waiting t.status && has_come t.wait m

abbrev pub status_at : ℕ → Task → Status
status_at m t = if wakes m t then Pending else t.status

-- such a task is pending, and nothing else changes
abbrev pub woken : ℕ → Task → Task
woken m t = record t { status = status_at m t }

abbrev pub has_id : ℕ → Task → Bool
has_id id t = t.id == id

abbrev pub ids : List Task → List ℕ
ids ts = map (λ (t : Task). t.id) ts

-- the place of an identifier among these
abbrev pub place_in : List ℕ → ℕ → Option ℕ
place_in all id = position (λ i. i == id) all

-- the map has the place of each identifier
abbrev pub ArePlaces : List ℕ → BTreeMap ℕ ℕ → Type 0
ArePlaces all places = (id : ℕ) → get nat_cmp places id ≡ place_in all id
