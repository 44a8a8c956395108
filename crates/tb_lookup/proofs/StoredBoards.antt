-- The row of a number is that of the board of the number.
use Rattle.std.proofs.Common.{◌≡◌, ◌∙◌, ◌+◌, ◌<◌, ◌≤◌, ◌==◌, ℕ, Bool, true, List, [], ◌∷◌, Option, Some, None, filter, find, map, length, refl, sym, ap, subst, arith, inl, inr}
use Rattle.std.specs.List.{AllByRecursion, list_any}
use Rattle.std.specs.Option.{option_map}
use Rattle.std.proofs.lemmas.Bool.{cases_Bool, eqb-true}
use Rattle.std.proofs.lemmas.List.{length-map}
use Rattle.sqlite.specs.State.{State as Database}
use Rattle.tb_board.specs.Good.{IsGood}
use Rattle.tb_board.specs.declared.board.Board.{Board}
use Rattle.tb_board.specs.declared.world.World.{World}
use Rattle.tb_board.specs.World.{find_board, has_number}
use Rattle.tb_calls.specs.Call.{State}
use Rattle.tb_rows.specs.Laws.{AreFoundAgain, IsBoardRead}
use Rattle.tb_rows.proofs.Joined.{numbered_from, AreNumberedFrom}
use Rattle.tb_rows.proofs.Lists.{differ}
use Rattle.tb_rows.specs.Rows.{board_row}
use Rattle.tb_sql.specs.Changes.{is_board}
use Rattle.tb_sql.specs.Opening.{IsAsBefore}
use Rattle.tb_sql_tables.specs.declared.rows.BoardRow.{BoardRow}
use Rattle.tb_sql_tables.specs.Content.{Content}
use Rattle.tb_sql_tables.specs.Found.{IsOneOf}
use Rattle.tb_sql_tables.specs.Failing.{HasFaulted, IsReady, KeepsFaults}
use Rattle.tb_sql_tables.proofs.Failing.{fault_before, fault_behind, still_ready}
use Rattle.tb_lookup.specs.Reopening.{FailsOfBoard, FailsOfState, OfBoard, OfContent, OfState}
use Rattle.tb_lookup.specs.Stored.{AreRowsOf}
use Rattle.tb_lookup.proofs.Reopened.{world_is_read}
use Rattle.tb_lookup.proofs.Standing.{stood}
use Rattle.tb_lookup.proofs.Within.{IsWithin}
use Rattle.tb_lookup.proofs.Counting.{AreNumbered, within_any}
use Rattle.tb_rows.proofs.OneOf.{none_found, one_found}

-- ---- the row of a number

none_later : (k n : ℕ) (bs : List Board) → k < n → AreNumberedFrom n bs → filter (is_board k) (map board_row bs) ≡ []
none_later k n [] below numbered = refl
none_later k n (b ∷ bs) below numbered = rw (differ b.number k (λ same. omega (arith, numbered.0))) (none_later k (n + 1) bs (omega arith) numbered.1)

-- no row has a number that no board has, and one row has that of a board
abbrev AreAt : List BoardRow → Option Board → Type 0
AreAt rows None = rows ≡ []
AreAt rows (Some b) = rows ≡ board_row b ∷ []

rows_at : (k n : ℕ) (bs : List Board) → AreNumberedFrom n bs → AreAt (filter (is_board k) (map board_row bs)) (find (has_number k) bs)
rows_at k n [] numbered = refl
rows_at k n (b ∷ bs) numbered = elim (cases_Bool (b.number == k)) [
  | inl here ↦ rw here (ap (λ l. board_row b ∷ l) (none_later k (n + 1) bs (omega (arith, numbered.0, eqb-true b.number k here)) numbered.1))
  | inr other ↦ rw other (rows_at k (n + 1) bs numbered.1)
]

pub row_found : (s : State) (c : Content) → AreRowsOf s c → (k : ℕ) (row : Option BoardRow) → IsOneOf (filter (is_board k) c.boards) row → row ≡ option_map board_row (find_board s.world k)
row_found s c of_s k row is = go (find_board s.world k) (rows_at k 1 s.world.boards (numbered_from 1 s.world.boards of_s.good.numbered))
  where
    go : (b : Option Board) → AreAt (filter (is_board k) (map board_row s.world.boards)) b → row ≡ option_map board_row b
    go None none = none_found (is_board k) c.boards (map board_row s.world.boards) of_s.same.tables.boards row none is
    go (Some b) one = one_found (is_board k) c.boards (map board_row s.world.boards) of_s.same.tables.boards row (board_row b) one is

-- ---- the board of a row

-- what holds of each holds of the one that is found
found_has : {X : Type 0} (P : X → Type 0) (p : X → Bool) (xs : List X) (x : X) → AllByRecursion P xs → find p xs ≡ Some x → P x
found_has P p [] x all is = absurd (cc)
found_has P p (y ∷ ys) x all is = elim (cases_Bool (p y)) [
  | inl here ↦ let same : Some y ≡ Some x = rw here at is in let it : y ≡ x = cc in subst P it all.0
  | inr other ↦ found_has P p ys x all.1 (rw other at is)
]

pub none_stored : (old new : Database) (k : ℕ) → OfContent old new (λ c. IsOneOf (filter (is_board k) c.boards) None) → OfState old new (λ s. None ≡ find_board s.world k)
none_stored old new k found clean s stored = go (find_board s.world k) (row_found s stored.content stored.rows k None (found clean stored.content stored.stands))
  where
    go : (b : Option Board) → None ≡ option_map board_row b → None ≡ b
    go None is = refl
    go (Some b) is = absurd (cc)

pub board_stored : AreFoundAgain → (old mid new : Database) (k : ℕ) (row : BoardRow) (b : Board) → OfContent old mid (λ c. IsOneOf (filter (is_board k) c.boards) (Some row)) → OfBoard mid new (λ w d. row ≡ board_row d → b ≡ d)
    → IsAsBefore old mid → IsAsBefore mid new → OfState old new (λ s. Some b ≡ find_board s.world k)
board_stored law old mid new k row b found read one two clean s stored =
    go (find_board s.world k) refl (row_found s stored.content stored.rows k (Some row) (found (two.clean clean) stored.content stored.stands))
  where
    go : (d : Option Board) → find_board s.world k ≡ d → Some row ≡ option_map board_row d → Some b ≡ find_board s.world k
    go None at is = absurd (cc)
    go (Some d) at is =
        let each = found_has (IsBoardRead s.world stored.content) (has_number k) s.world.boards d (world_is_read law s stored.content stored.rows).each at in
        let row_is : row ≡ board_row d = cc in
        ap Some (read clean s.world stored.content d each (stood stored.content old mid stored.stands one) row_is) ∙ sym at

-- ---- why it isn't read

pub board_fails : AreFoundAgain → (old mid new : Database) (k : ℕ) (row : BoardRow) → OfContent old mid (λ c. IsOneOf (filter (is_board k) c.boards) (Some row)) → IsAsBefore old mid → KeepsFaults old mid
    → IsAsBefore mid new → KeepsFaults mid new → FailsOfBoard mid new (λ d. row ≡ board_row d) → FailsOfState old new
board_fails law old mid new k row found one kept two later fails clean ready s stored = elim (still_ready old mid kept (two.clean clean) ready) [
  | inl still ↦ fault_behind old mid new kept.counts (go still (find_board s.world k) refl (row_found s stored.content stored.rows k (Some row) (found (two.clean clean) stored.content stored.stands)))
  | inr fault ↦ fault_before old mid new fault later.counts
]
  where
    go : IsReady mid → (d : Option Board) → find_board s.world k ≡ d → Some row ≡ option_map board_row d → HasFaulted mid new
    go still None at is = absurd (cc)
    go still (Some d) at is =
        let each = found_has (IsBoardRead s.world stored.content) (has_number k) s.world.boards d (world_is_read law s stored.content stored.rows).each at in
        let good = found_has IsGood (has_number k) s.world.boards d stored.rows.good.good at in
        let row_is : row ≡ board_row d = cc in
        fails clean still s.world stored.content d each (stood stored.content old mid stored.stands one) good row_is

found_passes : {X : Type 0} (p : X → Bool) (xs : List X) (x : X) → find p xs ≡ Some x → p x ≡ true
found_passes p [] x is = absurd (cc)
found_passes p (y ∷ ys) x is = elim (cases_Bool (p y)) [
  | inl here ↦ let same : Some y ≡ Some x = rw here at is in let it : y ≡ x = cc in subst (λ z. p z ≡ true) it here
  | inr other ↦ found_passes p ys x (rw other at is)
]

-- it has its number
pub number_is : (w : World) (k : ℕ) (b : Board) → Some b ≡ find_board w k → b.number ≡ k
number_is w k b is = eqb-true b.number k (found_passes (has_number k) w.boards b (sym is))

-- ---- the numbers of boards

numbered_rows : (n : ℕ) (bs : List Board) → AreNumberedFrom n bs → AreNumbered (λ (row : BoardRow). row.id) n (map board_row bs)
numbered_rows n [] numbered = tt
numbered_rows n (b ∷ bs) numbered = (numbered.0, numbered_rows (n + 1) bs numbered.1)

pub board_within : (old new : Database) (k : ℕ) (there : Bool) → 1 ≤ k → OfContent old new (λ c. there ≡ list_any (is_board k) c.boards) → OfState old new (λ s. IsWithin k (length s.world.boards) there)
board_within old new k there from found clean s stored =
    let numbered = numbered_rows 1 s.world.boards (numbered_from 1 s.world.boards stored.rows.good.numbered) in
    subst (λ count. IsWithin k count there) (length-map s.world.boards board_row)
    (within_any (λ (row : BoardRow). row.id) k stored.content.boards (map board_row s.world.boards) stored.rows.same.tables.boards numbered from there (found clean stored.content stored.stands))
