-- What a keeper holds.
use Rattle.std.specs.Prelude.{◌≡◌, ℕ, Bool, true, false, List, length}
use Rattle.sqlite.specs.State.{HasCleanDisk, State as Database}
use Rattle.tb_board.specs.declared.board.Board.{Board}
use Rattle.tb_board.specs.declared.world.World.{World}
use Rattle.tb_core.specs.GoodWorld.{IsGoodWorld}
use Rattle.tb_calls.specs.Call.{State}
use Rattle.tb_cache.specs.BoardCache.{AreOf}
use Rattle.tb_lookup.specs.Stored.{IsStored, IsStoredAsEither}
use Rattle.tb_keeper.specs.declared.people_at_hand.People.{People}
use Rattle.tb_keeper.specs.PeopleAtHand.{IsKnownIn}

-- what a keeper has at hand is the world's: how many people and boards there are, the known person, and boards by their numbers
pub record IsAtHand (people : People) (boards : ℕ) (cached : List (ℕ × Board))
    (w : World) : Type 0 where
  pub people_are : people.count ≡ length w.people
  pub known_is : IsKnownIn w people.known
  pub boards_are : boards ≡ length w.boards
  pub cached_are : AreOf w cached

-- The rows of the state are stored, and what is at hand is of its world. Once the store has failed its rows are stored, or those of another state.
abbrev pub Kept : Bool → People → ℕ → List (ℕ × Board) → Database → State → Type 0
Kept false people boards cached d s = IsStored s d × IsAtHand people boards cached s.world
Kept true people boards cached d s = (t : State) × IsStoredAsEither s t d

-- The state has a good world, and is kept while the disk returns what was written.
pub record Holds (failed : Bool) (people : People) (boards : ℕ) (cached : List (ℕ × Board))
    (d : Database) (s : State) : Type 0 where
  pub good : IsGoodWorld s.world
  pub kept : HasCleanDisk d → Kept failed people boards cached d s
