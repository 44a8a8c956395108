-- Tasks that are taken as they are written now.
use Rattle.std.specs.Prelude.{◌≡◌, true, List, [], ◌∷◌, is_some}
use Rattle.serde_json.specs.Data.{Data}
use Rattle.tb_cleaning.specs.Entries.{Judged, taken_in}
use Rattle.tb_cleaning.specs.Judging.{judged}
use Rattle.tb_cleaning.specs.Ordering.{brought}
use Rattle.tb_cleaning.specs.Sorting.{sorted}

-- the task isn't refused as it is written now
abbrev pub IsRead : Judged → Type 0
IsRead e = is_some (taken_in (judged e.item)) ≡ true

abbrev pub AreRead : List Judged → Type 0
AreRead [] = Unit {0}
AreRead (e ∷ es) = IsRead e × AreRead es

-- of the tasks that cleaning brings none is refused as it is written
abbrev pub RefusesNone : Type 0
RefusesNone = (ds : List Data) → AreRead (brought (sorted ds))
