-- The places of a template's instances among tasks.
use Rattle.std.specs.Prelude.{ℕ, Bool, false, ◌==◌, List, [], ◌∷◌, Option, Some, None, if◌then◌else◌}
use Rattle.tb_task.specs.declared.task.Task.{Task}

abbrev pub is_id : ℕ → Option ℕ → Bool
is_id id None = false
is_id id (Some other) = other == id

-- the place of a task among the instances of a template, if it is one
abbrev pub place_in : ℕ → Task → Option ℕ
place_in id t = if is_id id t.parent then t.imask else None

abbrev pub with_place : Option ℕ → List ℕ → List ℕ
with_place None places = places
with_place (Some place) places = place ∷ places

-- the places of a template's instances, in order of the tasks
abbrev pub instance_places : ℕ → List Task → List ℕ
instance_places id [] = []
instance_places id (t ∷ ts) = with_place (place_in id t) (instance_places id ts)
