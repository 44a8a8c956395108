-- Where the tasks are to which others are linked.
use Rattle.std.specs.Prelude.{◌≡◌, ℕ, ◌+◌, ◌==◌, Bool, false, List, [], ◌∷◌, ◌++◌, Option, Some, None, if◌then◌else◌}
use Rattle.std.specs.BTreeMap.{BTreeMap, get}
use Rattle.std.specs.Ordering.{nat_cmp}
use Rattle.tb_task.specs.declared.incoming.Incoming.{Incoming}
use Rattle.tb_cleaning.specs.Entries.{Judged, taken_in}

abbrev pub is_id : Option ℕ → ℕ → Bool
is_id None id = false
is_id (Some other) id = other == id

-- the first place of an identifier, of places from k on
abbrev pub place_from : ℕ → ℕ → List (Option ℕ) → Option ℕ
place_from k id [] = None
place_from k id (other ∷ ids) = if is_id other id then Some k else place_from (k + 1) id ids

abbrev pub place_of : List (Option ℕ) → ℕ → Option ℕ
place_of ids id = place_from 0 id ids

-- what is noted of an identifier q once the place of id is noted, where this was noted of q before
abbrev pub put_place : Option ℕ → ℕ → ℕ → Option ℕ → Option ℕ
put_place id place q before = if is_id id q then Some place else before

-- the first place of each identifier is noted, of places from k on
abbrev pub AreFirsts : ℕ → List (Option ℕ) → BTreeMap ℕ ℕ → Type 0
AreFirsts k ids firsts = (id : ℕ) → get nat_cmp firsts id ≡ place_from k id ids

abbrev pub with_place : List ℕ → Option ℕ → List ℕ
with_place found None = found
with_place found (Some place) = found ++ place ∷ []

-- the places of those that are there, after those found
abbrev pub places_on : List (Option ℕ) → List ℕ → List ℕ → List ℕ
places_on ids found [] = found
places_on ids found (id ∷ more) = places_on ids (with_place found (place_of ids id)) more

abbrev pub depends_in : Option Incoming → List ℕ
depends_in None = []
depends_in (Some i) = i.task.depends

abbrev pub parent_in : Option Incoming → Option ℕ
parent_in None = None
parent_in (Some i) = i.raw_parent

-- the tasks on which one depends
abbrev pub depends_of : List (Option ℕ) → Judged → List ℕ
depends_of ids e = places_on ids [] (depends_in (taken_in e.verdict))

abbrev pub place_of_some : List (Option ℕ) → Option ℕ → Option ℕ
place_of_some ids None = None
place_of_some ids (Some id) = place_of ids id

-- these and the template of an instance
abbrev pub waits_of : List (Option ℕ) → Judged → List ℕ
waits_of ids e =
    with_place (depends_of ids e) (place_of_some ids (parent_in (taken_in e.verdict)))
