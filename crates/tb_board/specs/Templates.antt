-- The places of a template's mask, and what stands at them.
use Rattle.std.specs.Prelude.{◌<◌, ℕ, Bool, ◌&&◌, ◌==◌, List, [], ◌∷◌, ◌++◌, Option, Some, None, unwrap_or, if◌then◌else◌, length, nat_eq, map, find}
use Rattle.std.specs.List.{IsDistinct, AllByRecursion, range_with_len}
use Rattle.tb_task.specs.declared.task.Task.{Task}
use Rattle.tb_task.specs.Status.{mark_of}
use Rattle.tb_board.specs.declared.board.Board.{Board}
use Rattle.tb_board.specs.declared.gone.Gone.{Gone}
use Rattle.tb_board.specs.InstancePlaces.{instance_places, is_id, place_in}

-- the places of a template that are gone
abbrev pub gone_places : ℕ → List Gone → List ℕ
gone_places id [] = []
gone_places id (g ∷ gs) = if g.template == id then g.place ∷ gone_places id gs
    else gone_places id gs

-- all places of a template: those that are gone, then those of its instances
abbrev pub places : Board → ℕ → List ℕ
places b id = gone_places id b.gone ++ instance_places id b.tasks

-- how many places a template has
abbrev pub count : Board → ℕ → ℕ
count b id = length (places b id)

abbrev pub is_instance_at : ℕ → ℕ → Task → Bool
is_instance_at id k t = is_id k (place_in id t)

abbrev pub is_gone_at : ℕ → ℕ → Gone → Bool
is_gone_at id k g = (g.template == id) && (g.place == k)

-- the mark of the instance's status where there is one, else that of the gone place, and a question mark where neither tells
abbrev pub mark_here : Option Task → Option Gone → ℕ
mark_here (Some t) g = unwrap_or (mark_of t.status) 63
mark_here None (Some g) = g.mark
mark_here None None = 63

-- the mark at a place
abbrev pub mark_at : Board → ℕ → ℕ → ℕ
mark_at b id k = mark_here (find (is_instance_at id k) b.tasks) (find (is_gone_at id k) b.gone)

-- a mark for each place from 0 up to the count
-- Rule: a mask is made of a template's instances and gone places. Tried by mask_of_three.
abbrev pub mask : Board → ℕ → List ℕ
mask b id = map (mark_at b id) (range_with_len 0 (count b id))

-- no two are equal, and each is below their number: so they are 0 up to their number
pub record IsRun (xs : List ℕ) : Type 0 where
  pub distinct : IsDistinct nat_eq xs
  pub below : AllByRecursion (λ x. x < length xs) xs
