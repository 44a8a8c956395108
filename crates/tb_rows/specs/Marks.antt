-- Marks of listed places.
use Rattle.std.specs.Prelude.{◌≡◌, ◌<◌, ◌==◌, ◌||◌, ℕ, Bool, List, length}
use Rattle.tb_board.specs.Marks.{is_marked}
use Rattle.tb_rows.specs.Steps.{is_among}

-- for each of so many places a mark whether it is listed
pub record AreMarks (places : List ℕ) (count : ℕ) (marks : List Bool) : Type 0 where
  pub size : length marks ≡ count
  pub each : (i : ℕ) → i < count → is_marked marks i ≡ is_among places i

-- the place is marked as well, if there is a mark for it
pub record IsMarkedToo (place : ℕ) (old new : List Bool) : Type 0 where
  pub size : length new ≡ length old
  pub each : (i : ℕ) → i < length old → is_marked new i ≡ (is_marked old i || (place == i))
