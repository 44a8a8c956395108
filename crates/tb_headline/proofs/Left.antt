-- What a session begins with, and what it leaves: what a stop leaves of a store is the rows of a state.
use Rattle.std.proofs.Common.{◌≡◌, ℕ, Bool, true, false, true≢false, List, length, take, inl, inr}
use Rattle.sqlite.specs.State.{HasCleanDisk, State as Database}
use Rattle.sqlite_trees.specs.Tree.{Trees}
use Rattle.sqlite_trees.proofs.Doubt.{clean_of, no_doubt}
use Rattle.tb_board.specs.declared.board.Board.{Board}
use Rattle.tb_calls.specs.declared.call.Call.{Call}
use Rattle.tb_calls.specs.Call.{State, replies_to}
use Rattle.tb_calls.specs.Leaving.{StandsAfter}
use Rattle.tb_core.specs.GoodWorld.{IsGoodWorld}
use Rattle.tb_keeper.specs.declared.people_at_hand.People.{People}
use Rattle.tb_keeper.specs.Holds.{Holds, Kept}
use Rattle.tb_keeper.specs.Laws.{alone}
use Rattle.tb_calls.specs.declared.reply.Reply.{Reply}
use Rattle.tb_lookup.specs.Stored.{AreOldTreesOf, AreTreesOf, MayLeave}
use Rattle.tb_headline.specs.Headline.{IsAt, IsFileOf, IsSession, Leaves, StopLeaves}

-- a keeper is honest while its disk returns what was written
pub honest : (d : Database) → HasCleanDisk d → d.is_clean ≡ true
honest d clean = clean_of d.is_clean clean

pub clean_before : (old new : Database) → (new.is_clean ≡ true → old.is_clean ≡ true) → HasCleanDisk new → HasCleanDisk old
clean_before old new before clean = no_doubt old.is_clean (before (honest new clean))

-- until the store has failed, they are those of what is held
own_rows : (failed : Bool) (people : People) (boards : ℕ) (es : List (ℕ × Board)) (d : Database) (s : State) → Kept failed people boards es d s
    → failed ≡ false → HasCleanDisk d → (db : Trees) → d.may_leave db → AreTreesOf s db
own_rows true people boards es d s kept fine clean db left = absurd (true≢false fine)
own_rows false people boards es d s kept fine clean db left =
    let stored = kept.0 in
    record { content = stored.content; rows = stored.rows; stored = stored.stands.left clean db left }

left_rows : (failed : Bool) (people : People) (boards : ℕ) (es : List (ℕ × Board)) (d : Database) (s : State) → Kept failed people boards es d s
    → HasCleanDisk d → (db : Trees) → d.may_leave db → (t : State) × AreTreesOf t db
left_rows false people boards es d s kept clean db left =
    let stored = kept.0 in
    (s, record { content = stored.content; rows = stored.rows; stored = stored.stands.left clean db left })
left_rows true people boards es d s kept clean db left =
    let either = kept.1 in
    elim (either.stands.left clean db left) [
      | inl is ↦ (s, record { content = either.before; rows = either.rows_before; stored = is })
      | inr is ↦ (kept.0, record { content = either.after; rows = either.rows_after; stored = is })
    ]

module _ (failed : Bool) (people : People) (boards : ℕ) (es : List (ℕ × Board)) (d : Database) where
  abbrev now : State → Type 0
  now = Holds failed people boards es d

  -- a store that hasn't failed is at the state that it holds
  pub at : (s : State) → now s → failed ≡ false → IsAt s now (MayLeave d)
  at s holds fine = record { held = holds; only = λ t left. alone failed people boards es d s t holds fine left }

  -- what is held is said of a clean disk alone
  pub held_clean : (s : State) → IsGoodWorld s.world → (HasCleanDisk d → now s) → now s
  held_clean s good held = record { good = good; kept = λ clean. (held clean).kept clean }

  -- what is in a file is held, whichever its tables are
  pub held_file : (s : State) (db : Trees) → IsFileOf s db → (HasCleanDisk d → AreTreesOf s db → now s)
      → (HasCleanDisk d → AreOldTreesOf s db → now s) → now s
  held_file s db (inl rows) held migrated = held_clean s rows.rows.good (λ clean. held clean rows)
  held_file s db (inr (inl rows)) held migrated = held_clean s rows.rows.rows.good (λ clean. migrated clean (inl rows))
  held_file s db (inr (inr rows)) held migrated = held_clean s rows.rows.good (λ clean. migrated clean (inr rows))

  -- what a stop leaves of a store that hasn't failed
  pub stays : (s : State) → now s → failed ≡ false → StopLeaves d (AreTreesOf s)
  stays s holds fine clean db left = own_rows failed people boards es d s (holds.kept clean) fine clean db left

  -- what a stop leaves on a clean disk
  pub leaves : HasCleanDisk d → (s : State) (calls : List Call) (answered : ℕ)
      → StandsAfter s calls answered now (MayLeave d) → Leaves s calls answered d
  leaves clean s calls answered stands db left =
      let rows = left_rows failed people boards es d stands.held.0 (stands.held.1.kept clean) clean db left in
      (rows.0, rows.1, stands.stops rows.0 (record { clean = clean; trees = db; left = left; stored = rows.1 }))

  -- a run over a store is a session
  pub session : HasCleanDisk d → (s : State) (calls : List Call) (replies : List Reply)
      → replies ≡ replies_to s (take (length replies) calls)
      → StandsAfter s calls (length replies) now (MayLeave d) → IsSession s calls replies now d
  session clean s calls replies told stands = record {
    told = told;
    held = stands.held;
    leaves = leaves clean s calls (length replies) stands;
  }
