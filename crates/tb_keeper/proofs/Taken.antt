-- What an opening leaves of a store of the first version, or of the second.
use Rattle.std.proofs.Common.{◌≡◌, ◌∙◌, ◌+◌, ℕ, List, [], ◌∷◌, length, refl, sym, IsTrue, false, inl, inr, arith}
use Rattle.std.proofs.lemmas.List.{length-map}
use Rattle.std.proofs.lemmas.List.Sorted.{length_permutation}
use Rattle.sqlite.specs.State.{HasCleanDisk, State as Database}
use Rattle.tb_board.specs.declared.board.Board.{Board}
use Rattle.tb_board.specs.declared.world.Person.{Person}
use Rattle.tb_calls.specs.Call.{State}
use Rattle.tb_rows.specs.Rows.{board_row, person_row, rows_from}
use Rattle.tb_sql.specs.declared.migrating.Counts.{Counts}
use Rattle.tb_sql.specs.Migrating.{migrated, IsMigrated, IsWidened}
use Rattle.tb_sql.specs.Opening.{IsAsBefore}
use Rattle.tb_sql.specs.declared.opening.Version.TheVariants.{First, Second, Third}
use Rattle.tb_sql.proofs.Opened.{stands_again}
use Rattle.tb_sql_tables.specs.Content.{without_history, AreOldRows, AreRows, AreSecondRows, Content, Stands, StandsBy}
use Rattle.tb_sql_tables.specs.Standing.{IsOldContent, IsSecondContent, StandsOld, StandsOldOr, StandsSecond, StandsSecondOr}
use Rattle.tb_lookup.specs.Stored.{AreOldRowsOf, AreOldTreesOf, AreSecondRowsOf}
use Rattle.tb_lookup.specs.Migrating.{IsStoredInEither, IsStoredInFirst, IsStoredInSecond, IsStoredOld, IsStoredSecond}
use Rattle.tb_lookup.proofs.Migrating.{migrated_rows}
use Rattle.tb_keeper.specs.Holds.{Holds}
use Rattle.tb_keeper.specs.Versions.{OfFirstState, OfSecondState}
use Rattle.tb_keeper.proofs.Holding.{counted, made_held}

people_rows : (n : ℕ) (ps : List Person) → length (rows_from (λ k p. person_row k p ∷ []) n ps) ≡ length ps
people_rows n [] = refl
people_rows n (p ∷ ps) = let later = people_rows (n + 1) ps in omega (arith, later)

module _ (old new : Database) where
  -- what is held once a store has been migrated
  pub migrated_held : (counts : Counts) (cached : List (ℕ × Board)) → cached ≡ [] → new.in_transaction ≡ false → (HasCleanDisk new → IsTrue new.is_open)
      → ((content : Content) → StandsOld content old → StandsBy (IsMigrated content counts) (AreRows (migrated content)) new) → OfFirstState old new (λ s. Holds false (counted counts.people) counts.boards cached new s)
  migrated_held counts cached none idle usable done clean s stored =
      let content = stored.content in
      let now = done content stored.stands in
      let rows = migrated_rows s content stored.rows in
      let is = (now.seen clean (usable clean)).0 in
      let stands : Stands (migrated content) new = record { seen = λ c is_open. let at = now.seen c is_open in (at.0.is, at.1); left = now.left } in
      let same = rows.same.tables in
      let of_people : counts.people ≡ length s.world.people = is.people ∙ sym (length_permutation _ _ same.people) ∙ people_rows 1 s.world.people in
      let of_boards : counts.boards ≡ length s.world.boards = is.boards ∙ sym (length_permutation _ _ same.boards) ∙ length-map s.world.boards board_row in
      made_held counts.people counts.boards cached (migrated content) new s rows stands idle of_people of_boards none

  -- what is held once a store of the second version has a history
  pub widened_held : (counts : Counts) (cached : List (ℕ × Board)) → cached ≡ [] → new.in_transaction ≡ false → (HasCleanDisk new → IsTrue new.is_open)
      → ((content : Content) → StandsSecond content old → StandsBy (IsWidened content counts) (AreRows (without_history content)) new) → OfSecondState old new (λ s. Holds false (counted counts.people) counts.boards cached new s)
  widened_held counts cached none idle usable done clean s stored =
      let content = stored.content in
      let now = done content stored.stands in
      let rows = stored.rows in
      let is = (now.seen clean (usable clean)).0 in
      let stands : Stands (without_history content) new = record { seen = λ c is_open. let at = now.seen c is_open in (at.0.is, at.1); left = now.left } in
      let same = rows.same.tables in
      let of_people : counts.people ≡ length s.world.people = is.people ∙ sym (length_permutation _ _ same.people) ∙ people_rows 1 s.world.people in
      let of_boards : counts.boards ≡ length s.world.boards = is.boards ∙ sym (length_permutation _ _ same.boards) ∙ length-map s.world.boards board_row in
      made_held counts.people counts.boards cached (without_history content) new s rows stands idle of_people of_boards none

  -- where the commit fails, either version is there
  pub either_of_second : ((content : Content) → StandsSecond content old → StandsSecondOr content (without_history content) new) → (s : State) → IsStoredSecond s old → IsStoredInSecond s new
  either_of_second store s stored = record {
    before = stored.content;
    after = without_history stored.content;
    rows_before = stored.rows;
    rows_after = stored.rows;
    stands = store stored.content stored.stands;
  }

  pub either_version : ((content : Content) → StandsOld content old → StandsOldOr content (migrated content) new) → (s : State) → IsStoredOld s old → IsStoredInFirst s new
  either_version store s stored = record {
    before = stored.content;
    after = migrated stored.content;
    rows_before = stored.rows;
    rows_after = migrated_rows s stored.content stored.rows;
    stands = store stored.content stored.stands;
  }

-- what stood in the tables of the first version stands
pub stood_old : (c : Content) (old new : Database) → StandsOld c old → IsAsBefore old new → StandsOld c new
stood_old c old new stands same = stands_again (IsOldContent c) (AreOldRows c) old new stands same

-- so it is stored in one of the versions
pub in_first : (s : State) (d : Database) (content : Content) → AreOldRowsOf s content → StandsOld content d → IsStoredInFirst s d
in_first s d content rows stands = record {
  before = content;
  after = migrated content;
  rows_before = rows;
  rows_after = migrated_rows s content rows;
  stands = record {
    seen = λ clean is_open. let at = stands.seen clean is_open in (inl at.0, at.1);
    left = λ clean db may. inl (stands.left clean db may);
  };
}

-- ---- the same of the second version

pub stood_second : (c : Content) (old new : Database) → StandsSecond c old → IsAsBefore old new → StandsSecond c new
stood_second c old new stands same = stands_again (IsSecondContent c) (AreSecondRows c) old new stands same

pub in_second : (s : State) (d : Database) (content : Content) → AreSecondRowsOf s content → StandsSecond content d → IsStoredInSecond s d
in_second s d content rows stands = record {
  before = content;
  after = without_history content;
  rows_before = rows;
  rows_after = rows;
  stands = record {
    seen = λ clean is_open. let at = stands.seen clean is_open in (inl at.0, at.1);
    left = λ clean db may. inl (stands.left clean db may);
  };
}

-- ---- of either

-- what an opening that takes nothing leaves
pub left_old : (s : State) (found d : Database) → ((content : Content) → AreOldRows content found.now.trees → StandsOld content d) → ((content : Content) → AreSecondRows content found.now.trees → StandsSecond content d)
    → AreOldTreesOf s found.now.trees → IsStoredInEither s d
left_old s found d old earlier (inl trees) = inl (in_first s d trees.content trees.rows (old trees.content trees.stored))
left_old s found d old earlier (inr trees) = inr (in_second s d trees.content trees.rows (earlier trees.content trees.stored))

-- the versions differ
pub first_not_third : First ≡ Third → ⊥
first_not_third same = cc

pub second_not_third : Second ≡ Third → ⊥
second_not_third same = cc

pub first_not_second : First ≡ Second → ⊥
first_not_second same = cc
