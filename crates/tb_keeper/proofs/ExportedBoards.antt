-- The export of a board that may be missing.
use Rattle.std.proofs.Common.{◌≡◌, ◌∙◌, ℕ, Bool, true, false, true≢false, List, filter, Option, Some, None, option_map, length, refl, sym, ap}
use Rattle.std.specs.Prelude.{is_some, IfErr, IfOk, OnErr, Result, Ok, Err}
use Rattle.std.specs.Io.KnownBytes.{Appends}
use Rattle.sqlite.specs.State.{HasCleanDisk, State as Database}
use Rattle.tb_board.specs.World.{find_board}
use Rattle.tb_board.specs.declared.board.Board.{Board}
use Rattle.tb_lookup.proofs.StoredBoards.{row_found}
use Rattle.tb_rows.specs.Rows.{board_row}
use Rattle.tb_sql.specs.Changes.{is_board}
use Rattle.tb_sql.specs.Opening.{IsAsBefore}
use Rattle.tb_sql.specs.declared.store.StoreFault.{StoreFault}
use Rattle.tb_sql.specs.declared.store.StoreFault.TheVariants.{Memory as NoRoom, Store as Failed}
use Rattle.tb_sql_tables.specs.Found.{IsOneOf}
use Rattle.tb_sql_tables.specs.declared.rows.BoardRow.{BoardRow}
use Rattle.tb_lookup.specs.Reopening.{OfContent, OfState}
use Rattle.tb_calls.specs.Call.{State}
use Rattle.tb_lookup.specs.Stored.{IsStored}
use Rattle.tb_lookup.proofs.Standing.{stored_again}
use Rattle.tb_values.specs.Appends.{AppendsFront}
use Rattle.tb_values.proofs.Appends.{AppendsFront-none, Keeps-refl}
use Rattle.tb_keeper.specs.Exporting.{IsCut, IsExported, export_text, fault_of, tasks_on, text_on}
use Rattle.tb_keeper.specs.Noting.{AreNotes}
use Rattle.tb_keeper.specs.declared.export_fault.ExportFault.{ExportFault}
use Rattle.tb_keeper.specs.declared.export_fault.ExportFault.TheVariants.{Memory, NoBoard, Store, WriteFailed}
use Rattle.tb_keeper.specs.declared.noting.Note.{Note}
use Rattle.tb_keeper.proofs.ExportedRows.{ByNotes}

-- ---- whether there is a board

pub row_there : (old new : Database) (n : ℕ) (row : Option BoardRow) → OfContent old new (λ c. IsOneOf (filter (is_board n) c.boards) row) → OfState old new (λ s. is_some row ≡ is_some (find_board s.world n))
row_there old new n row found clean s stored = ap is_some (row_found s stored.content stored.rows n row (found clean stored.content stored.stands)) ∙ go (find_board s.world n)
  where
    go : (b : Option Board) → is_some (option_map board_row b) ≡ is_some b
    go None = refl
    go (Some b) = refl

-- ---- faults

abbrev is_missing : ExportFault → Bool
is_missing NoBoard = true
is_missing WriteFailed = false
is_missing Store = false
is_missing Memory = false

pub store_other : Store ≡ NoBoard → ⊥
store_other is = true≢false (sym (ap is_missing is))

pub memory_other : Memory ≡ NoBoard → ⊥
memory_other is = true≢false (sym (ap is_missing is))

pub write_other : WriteFailed ≡ NoBoard → ⊥
write_other is = true≢false (sym (ap is_missing is))

pub store_fault_other : (fault : StoreFault) → fault_of fault ≡ NoBoard → ⊥
store_fault_other NoRoom is = memory_other is
store_fault_other Failed is = store_other is

-- ---- what was written

pub cut_none : (b : Option Board) (m : ℕ) (fault : ExportFault) (known : Option (List ℕ)) → (fault ≡ NoBoard → ⊥) → IsCut b m fault known known
cut_none None m fault known other = refl
cut_none (Some b) m fault known other = (other, AppendsFront-none known known (export_text b m) (Keeps-refl known))

pub cut_missing : (old new : Database) (n m : ℕ) (known : Option (List ℕ)) (there : Bool) → OfState old new (λ s. there ≡ is_some (find_board s.world n)) → there ≡ false → OfState old new (λ s. IsCut (find_board s.world n) m NoBoard known known)
cut_missing old new n m known there found missing clean s stored = go (find_board s.world n) (sym missing ∙ found clean s stored)
  where
    go : (b : Option Board) → false ≡ is_some b → IsCut b m NoBoard known known
    go None is = refl
    go (Some b) is = absurd (true≢false (sym is))

-- what is told of those notes is told of the board
pub by_notes : (a b c : Database) (notes : List Note) (n m : ℕ) (P : Option Board → Type 0) → IsAsBefore a b → b.in_transaction ≡ false → IsAsBefore b c → OfState a b (λ s. AreNotes m (tasks_on (find_board s.world n)) notes)
    → OfState b c (ByNotes notes m n P) → OfState a c (λ s. P (find_board s.world n))
by_notes a b c notes n m P one idle two noted told clean s stored = told clean s (stored_again s a b stored one idle) (noted (two.clean clean) s stored)

pub front_none : (a b : Database) (n m : ℕ) (known : Option (List ℕ)) → OfState a b (λ s. AppendsFront known known (text_on (find_board s.world n) m))
front_none a b n m known clean s stored = AppendsFront-none known known (text_on (find_board s.world n) m) (Keeps-refl known)

pub err_by : {T E : Type 0} (r : Result T E) {P : Type 0} → P → OnErr r P
err_by (Ok x) p = tt
err_by (Err e) p = p

pub ok_by : {T E : Type 0} (r : Result T E) {P : T → Type 0} {Q : T → Type 0} → ((x : T) → P x → Q x) → IfOk r P → IfOk r Q
ok_by (Ok x) f p = f x p
ok_by (Err e) f p = tt

module _ (a b c : Database) (n m : ℕ) (old new : Option (List ℕ)) (there : Bool) (one : IsAsBefore a b) (idle : b.in_transaction ≡ false) (two : IsAsBefore b c) (found : OfState a b (λ s. there ≡ is_some (find_board s.world n))) (is_there : there ≡ true) where
  has : (s : State) → HasCleanDisk c → IsStored s a → true ≡ is_some (find_board s.world n)
  has s clean stored = sym is_there ∙ found (two.clean clean) s stored

  pub exported : (count : ℕ) → OfState b c (λ s. (count ≡ length (tasks_on (find_board s.world n))) × Appends old new (text_on (find_board s.world n) m)) → OfState a c (λ s. IsExported (find_board s.world n) m count old new)
  exported count told clean s stored = go (find_board s.world n) (has s clean stored) (told clean s (stored_again s a b stored one idle))
    where
      go : (o : Option Board) → true ≡ is_some o → (count ≡ length (tasks_on o)) × Appends old new (text_on o m) → IsExported o m count old new
      go None is both = absurd (true≢false is)
      go (Some o) is both = both

  one_cut : (fault : ExportFault) → (fault ≡ NoBoard → ⊥) → OfState b c (λ s. AppendsFront old new (text_on (find_board s.world n) m)) → OfState a c (λ s. IsCut (find_board s.world n) m fault old new)
  one_cut fault other front clean s stored = go (find_board s.world n) (has s clean stored) (front clean s (stored_again s a b stored one idle))
    where
      go : (o : Option Board) → true ≡ is_some o → AppendsFront old new (text_on o m) → IsCut o m fault old new
      go None is part = absurd (true≢false is)
      go (Some o) is part = (other, part)

  pub cut : (r : Result ℕ ExportFault) → (r ≡ Err NoBoard → ⊥) → OnErr r (OfState b c (λ s. AppendsFront old new (text_on (find_board s.world n) m))) → IfErr r (λ fault. OfState a c (λ s. IsCut (find_board s.world n) m fault old new))
  cut (Ok x) other front = tt
  cut (Err fault) other front = one_cut fault (λ is. other (ap Err is)) front
