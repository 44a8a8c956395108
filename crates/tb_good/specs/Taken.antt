-- The places that the templates of a board have, each with its template.
use Rattle.std.specs.Prelude.{◌≡◌, ◌<◌, ℕ, ◌==◌, Bool, nat_lt, unwrap_or, List, [], ◌∷◌, ◌++◌, Option, Some, None, if◌then◌else◌, length, map}
use Rattle.std.specs.BTreeMap.{BTreeMap, get}
use Rattle.std.specs.List.{filter_map}
use Rattle.std.specs.Ordering.{nat_cmp}
use Rattle.tb_task.specs.declared.task.Task.{Task}
use Rattle.tb_board.specs.declared.board.Board.{Board}
use Rattle.tb_board.specs.declared.gone.Gone.{Gone}

abbrev pub gone_place : Gone → ℕ × ℕ
gone_place g = (g.template, g.place)

abbrev pub with_parent : Option ℕ → Option ℕ → Option (ℕ × ℕ)
with_parent None place = None
with_parent (Some id) None = None
with_parent (Some id) (Some place) = Some (id, place)

-- the place of an instance
abbrev pub instance_place : Task → Option (ℕ × ℕ)
instance_place t = with_parent t.parent t.imask

-- those that are gone, then those of instances
abbrev pub taken : Board → List (ℕ × ℕ)
taken b = map gone_place b.gone ++ filter_map instance_place b.tasks

-- the places of one template
abbrev pub places_among : ℕ → List (ℕ × ℕ) → List ℕ
places_among id [] = []
places_among id (p ∷ ps) = if p.0 == id then p.1 ∷ places_among id ps else places_among id ps

-- the place is below the number of its template's places
abbrev pub IsBelowCount : List (ℕ × ℕ) → ℕ × ℕ → Type 0
IsBelowCount ps p = p.1 < length (places_among p.0 ps)

abbrev pub count_in : BTreeMap ℕ ℕ → ℕ → ℕ
count_in counts id = unwrap_or (get nat_cmp counts id) 0

abbrev pub is_below : BTreeMap ℕ ℕ → ℕ × ℕ → Bool
is_below counts p = nat_lt p.1 (count_in counts p.0)

-- the map has how many of these places each template has
abbrev pub AreCounts : List (ℕ × ℕ) → BTreeMap ℕ ℕ → Type 0
AreCounts ps counts = (id : ℕ) → count_in counts id ≡ length (places_among id ps)
