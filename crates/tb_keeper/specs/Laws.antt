-- What a keeper's laws rest on.
use Rattle.std.proofs.Common.{◌≡◌, ℕ, Bool, true, false, true≢false, List}
use Rattle.sqlite.specs.State.{State as Database}
use Rattle.sqlite_trees.proofs.Doubt.{clean_of}
use Rattle.tb_board.specs.declared.board.Board.{Board}
use Rattle.tb_core.specs.GoodWorld.{IsGoodWorld}
use Rattle.tb_calls.specs.Call.{State}
use Rattle.tb_lookup.specs.Stored.{MayLeave}
use Rattle.tb_lookup.proofs.States.{stored_alone}
use Rattle.tb_keeper.specs.declared.people_at_hand.People.{People}
use Rattle.tb_keeper.specs.Holds.{Holds}

module _ (failed : Bool) (people : People) (boards : ℕ) (cached : List (ℕ × Board)) (d : Database) where
  -- of a store that hasn't returned what was written nothing is said
  pub given : (s : State) → IsGoodWorld s.world
      → (d.is_clean ≡ true → Holds failed people boards cached d s)
      → Holds failed people boards cached d s
  given s good held =
      record { good = good; kept = λ clean. (held (clean_of d.is_clean clean)).kept clean }

  -- until the store has failed, a stop leaves what is held
  pub alone : (s t : State) → Holds failed people boards cached d s → failed ≡ false
      → MayLeave d t → t ≡ s
  alone s t held fine may = go failed held fine
    where
      go : (b : Bool) → Holds b people boards cached d s → b ≡ false → t ≡ s
      go false is usable = stored_alone s t d (is.kept may.clean).0 may
      go true is usable = absurd (true≢false usable)

  -- the world that is held is good
  pub good : (s : State) → Holds failed people boards cached d s → IsGoodWorld s.world
  good s held = held.good

-- a stop leaves something while the disk returns what was written
pub leaves : (d : Database) (t : State) → MayLeave d t → d.is_clean ≡ true
leaves d t may = clean_of d.is_clean may.clean
