-- What a look leaves of what is held.
use Rattle.std.proofs.Common.{◌≡◌, inl, ℕ, Bool, true, false, List, [], length, Contains, None, sym, subst, ◌∙◌, arith}
use Rattle.sqlite.specs.State.{HasCleanDisk, State as Database}
use Rattle.sqlite_trees.proofs.Doubt.{clean_of, no_doubt}
use Rattle.tb_board.specs.declared.board.Board.{Board}
use Rattle.tb_board.specs.declared.world.World.{World}
use Rattle.tb_calls.specs.Call.{State}
use Rattle.tb_calls.specs.Keep.{IsStill}
use Rattle.tb_cache.specs.BoardCache.{AreOf}
use Rattle.tb_sql.specs.Opening.{IsAsBefore}
use Rattle.tb_sql_tables.specs.Content.{Content, Stands}
use Rattle.tb_lookup.specs.Reopening.{OfState}
use Rattle.tb_lookup.specs.Stored.{AreRowsOf, IsStored, IsStoredAsEither, MayLeave}
use Rattle.tb_lookup.proofs.Standing.{stored_again}
use Rattle.tb_keeper.specs.declared.people_at_hand.People.{People}
use Rattle.tb_keeper.specs.Holds.{Holds, IsAtHand, Kept}
use Rattle.tb_keeper.specs.PeopleAtHand.{AreStillKnown}
use Rattle.tb_keeper.proofs.KnownPeople.{same_people}

-- a disk that returns what was written did so before
pub honest : (old new : Database) → (HasCleanDisk new → HasCleanDisk old) → new.is_clean ≡ true → old.is_clean ≡ true
honest old new clean is = clean_of old.is_clean (clean (no_doubt new.is_clean is))

may_before : (old new : Database) (t : State) → IsAsBefore old new → MayLeave new t → MayLeave old t
may_before old new t before may = record { clean = before.clean may.clean; trees = may.trees; left = before.left may.clean may.trees may.left; stored = may.stored }

-- a state that is stored is so as either of itself and itself
pub as_either : (s : State) (d : Database) → IsStored s d → IsStoredAsEither s s d
as_either s d stored = record {
  before = stored.content;
  after = stored.content;
  rows_before = stored.rows;
  rows_after = stored.rows;
  stands = record {
    seen = λ clean is_open. let at = stored.stands.seen clean is_open in (inl at.0, at.1);
    left = λ clean db may. inl (stored.stands.left clean db may);
  };
}

module _ (failed : Bool) (people : People) (boards : ℕ) (cached : List (ℕ × Board)) where
  -- a keeper whose store hasn't failed
  pub held_of : (d : Database) (s : State) → failed ≡ false → HasCleanDisk d → Holds failed people boards cached d s → IsStored s d × IsAtHand people boards cached s.world
  held_of d s fine clean held = subst (λ b. Kept b people boards cached d s) fine (held.kept clean)

  pub holds_of : (d : Database) (s : State) → failed ≡ false → Holds false people boards cached d s → Holds failed people boards cached d s
  holds_of d s fine held = subst (λ b. Holds b people boards cached d s) (sym fine) held

  pub failed_of : (d : Database) (s : State) → failed ≡ true → HasCleanDisk d → Holds failed people boards cached d s → (t : State) × IsStoredAsEither s t d
  failed_of d s gone clean held = subst (λ b. Kept b people boards cached d s) gone (held.kept clean)

module _ (failed : Bool) (people later_people : People) (boards : ℕ) (cached later : List (ℕ × Board)) (old new : Database) (fine : failed ≡ false) (before : IsAsBefore old new) (idle : old.in_transaction ≡ false → new.in_transaction ≡ false) where
  was : (s : State) → HasCleanDisk new → Holds failed people boards cached old s → IsStored s old × IsAtHand people boards cached s.world
  was s clean held = held_of failed people boards cached old s fine (before.clean clean) held

  is_again : (s : State) → HasCleanDisk new → Holds failed people boards cached old s → IsStored s new
  is_again s clean held = let stored = (was s clean held).0 in stored_again s old new stored before (idle stored.idle)

  -- what is looked up of a state that is held, by what is at hand
  pub hand_told : (P : State → Type 0) → OfState old new (λ s. IsAtHand people boards cached s.world → P s) → new.is_clean ≡ true → (s : State) → Holds failed people boards cached old s → IsAtHand people boards cached s.world × P s
  hand_told P found is s held =
      let clean = no_doubt new.is_clean is in
      let both = was s clean held in
      (both.1, found clean s both.0 both.1)

  -- a look after which all that is at hand is the world's leaves what is held
  pub hand_leaves : OfState old new (λ s. IsAtHand people boards cached s.world → IsAtHand later_people boards later s.world)
      → IsStill (λ s. Holds failed people boards cached old s) (λ t. MayLeave old t) (λ s. Holds failed later_people boards later new s) (λ t. MayLeave new t)
  hand_leaves of = record {
    held = λ s held. holds_of failed later_people boards later new s fine (record {
      good = held.good;
      kept = λ clean. let both = was s clean held in (is_again s clean held, of clean s both.0 both.1);
    });
    stops = λ s t held may. may_before old new t before may;
  }

  -- and so does one that fails
  pub hand_failure_leaves : IsStill (λ s. Holds failed people boards cached old s) (λ t. MayLeave old t) (λ s. Holds true later_people boards later new s) (λ t. MayLeave new t)
  hand_failure_leaves = record {
    held = λ s held. record { good = held.good; kept = λ clean. (s, as_either s new (is_again s clean held)) };
    stops = λ s t held may. may_before old new t before may;
  }

-- what is at hand after a look, where each part of it is the world's
pub hand_after : (people later_people : People) (boards : ℕ) (cached later : List (ℕ × Board)) (old new : Database) → AreStillKnown old new people later_people → OfState old new (λ s. AreOf s.world cached → AreOf s.world later)
    → OfState old new (λ s. IsAtHand people boards cached s.world → IsAtHand later_people boards later s.world)
hand_after people later_people boards cached later old new known of clean s stored hand = record {
  people_are = known.count_is ∙ hand.people_are;
  known_is = known.known_is clean s stored hand.known_is;
  boards_are = hand.boards_are;
  cached_are = of clean s stored hand.cached_are;
}

module _ (failed : Bool) (people : People) (boards : ℕ) (cached later : List (ℕ × Board)) (old new : Database) (fine : failed ≡ false) (before : IsAsBefore old new) (idle : old.in_transaction ≡ false → new.in_transaction ≡ false) where
  -- what is looked up of a state that is held
  pub told : (P : State → Type 0) → OfState old new P → new.is_clean ≡ true → (s : State) → Holds failed people boards cached old s → P s
  told P found is s held = (hand_told failed people people boards cached later old new fine before idle P (λ clean s stored hand. found clean s stored) is s held).1

  -- a look leaves what is held
  pub look_leaves : OfState old new (λ s. AreOf s.world cached → AreOf s.world later)
      → IsStill (λ s. Holds failed people boards cached old s) (λ t. MayLeave old t) (λ s. Holds failed people boards later new s) (λ t. MayLeave new t)
  look_leaves of = hand_leaves failed people people boards cached later old new fine before idle (hand_after people people boards cached later old new (same_people people old new) of)

  -- and so does one that fails
  pub failure_leaves : IsStill (λ s. Holds failed people boards cached old s) (λ t. MayLeave old t) (λ s. Holds true people boards later new s) (λ t. MayLeave new t)
  failure_leaves = hand_failure_leaves failed people people boards cached later old new fine before idle

-- no board is at hand
pub none_at_hand : (w : World) (es : List (ℕ × Board)) → es ≡ [] → AreOf w es
none_at_hand w es none e there =
    let nowhere : Contains {X = ℕ × Board} [] e = subst (λ (l : List (ℕ × Board)). Contains l e) none there in
    absurd (omega (arith, nowhere.1))

-- what is held once a store is open
pub first_held : (people : People) (boards : ℕ) (cached : List (ℕ × Board)) (mid new : Database) (s : State) → IsStored s mid → IsAsBefore mid new → new.in_transaction ≡ false → OfState mid new (λ t. IsAtHand people boards cached t.world)
    → Holds false people boards cached new s
first_held people boards cached mid new s stored before idle hand = record { good = stored.rows.good; kept = λ clean. (stored_again s mid new stored before idle, hand clean s stored) }

-- so many people, none of whom is known
abbrev pub counted : ℕ → People
counted count = record { count = count; known = None }

-- what is held once a store is made
pub made_held : (count boards : ℕ) (cached : List (ℕ × Board)) (content : Content) (d : Database) (s : State) → AreRowsOf s content → Stands content d → d.in_transaction ≡ false → count ≡ length s.world.people → boards ≡ length s.world.boards
    → cached ≡ [] → Holds false (counted count) boards cached d s
made_held count boards cached content d s rows stands idle of_people of_boards none = record {
  good = rows.good;
  kept = λ clean. (record { content = content; rows = rows; stands = stands; idle = idle }, record { people_are = of_people; known_is = tt; boards_are = of_boards; cached_are = none_at_hand s.world cached none });
}

-- a look that puts no board at hand
pub same_at_hand : (cached : List (ℕ × Board)) (old new : Database) → OfState old new (λ s. AreOf s.world cached → AreOf s.world cached)
same_at_hand cached old new clean s stored are = are

-- what is looked up of a state between looks
pub after_look : (P : State → Type 0) (old mid new : Database) → IsAsBefore old mid → mid.in_transaction ≡ false → OfState mid new P → OfState old new P
after_look P old mid new same idle found clean s stored = found clean s (stored_again s old mid stored same idle)

-- what is looked up before another look
pub before_look : (P : State → Type 0) (old mid new : Database) → OfState old mid P → (HasCleanDisk new → HasCleanDisk mid) → OfState old new P
before_look P old mid new found clean is s stored = found (clean is) s stored
