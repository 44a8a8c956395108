-- A look at the rows of a state fails since the disk failed or refused a call.
use Rattle.std.proofs.Common.{◌≡◌, ◌∙◌, ◌⊎◌, inl, inr, true, false, true≢false, sym, ap, refl, subst, Result, Ok, Err, arith}
use Rattle.sqlite.specs.State.{HasCleanDisk, State as Database}
use Rattle.tb_board.specs.declared.board.Board.{Board}
use Rattle.tb_calls.specs.Call.{State}
use Rattle.tb_rows.specs.Outcome.{Fails}
use Rattle.tb_rows.specs.declared.fault.ReopenFault.{ReopenFault}
use Rattle.tb_rows.specs.declared.fault.ReopenFault.TheVariants.{Memory, NotRows}
use Rattle.tb_sql.specs.Opening.{IsAsBefore}
use Rattle.tb_sql.specs.declared.store.StoreFault.{StoreFault}
use Rattle.tb_sql.specs.declared.store.StoreFault.TheVariants as told
use Rattle.tb_sql_tables.specs.Content.{IsContent}
use Rattle.tb_sql_tables.specs.Failing.{FailsByFault, KeepsFaults}
use Rattle.tb_sql_tables.proofs.Failing.{fault_before, fault_behind, still_ready}
use Rattle.tb_lookup.specs.Reopening.{FailsOfBoard, FailsOfState}
use Rattle.tb_lookup.specs.Stored.{IsStored}
use Rattle.tb_lookup.proofs.Standing.{stood, stored_again}

-- a look at the tables
pub by_content : (old new : Database) → IsAsBefore old new → FailsByFault old new (λ content. IsContent content old.now) → FailsOfState old new
by_content old new same fails clean ready s stored = fails clean ready stored.content (stored.stands.seen (same.clean clean) ready.is_open).0

-- what no state has is never met
pub never : (old new : Database) → (HasCleanDisk new → (s : State) → IsStored s old → ⊥) → FailsOfState old new
never old new none clean ready s stored = absurd (none clean s stored)

-- a look behind another
pub later_fails : (a b c : Database) → IsAsBefore a b → b.in_transaction ≡ false → KeepsFaults a b → (HasCleanDisk c → HasCleanDisk b) → KeepsFaults b c → FailsOfState b c → FailsOfState a c
later_fails a b c same idle kept before later fails clean ready s stored = elim (still_ready a b kept (before clean) ready) [
  | inl still ↦ fault_behind a b c kept.counts (fails clean still s (stored_again s a b stored same idle))
  | inr fault ↦ fault_before a b c fault later.counts
]

-- of a board that is read there
pub board_by_content : (old new : Database) (P : Board → Type 0) → IsAsBefore old new → FailsByFault old new (λ content. IsContent content old.now) → FailsOfBoard old new P
board_by_content old new P same fails clean ready w content b read stands good is = fails clean ready content (stands.seen (same.clean clean) ready.is_open).0

pub board_later : (a b c : Database) (P : Board → Type 0) → IsAsBefore a b → KeepsFaults a b → (HasCleanDisk c → HasCleanDisk b) → KeepsFaults b c → FailsByFault b c (λ content. IsContent content b.now) → FailsOfBoard a c P
board_later a b c P same kept before later fails clean ready w content d read stands good is = elim (still_ready a b kept (before clean) ready) [
  | inl still ↦ fault_behind a b c kept.counts (fails clean still content ((stood content a b stands same).seen (before clean) still.is_open).0)
  | inr fault ↦ fault_before a b c fault later.counts
]

-- rows are told to be a failure of the store where no world has them
pub not_rows : (fault : ReopenFault) (is : StoreFault) → (fault ≡ Memory → is ≡ told.Memory) → is ≡ told.Store → fault ≡ NotRows
not_rows NotRows is memory store = refl
not_rows Memory is memory store = let both : told.Memory ≡ told.Store = sym (memory refl) ∙ store in absurd (cc)

pub unread : {X : Type 0} (fault : ReopenFault) (is : StoreFault) (read : Result X ReopenFault) → Fails fault read → (fault ≡ Memory → is ≡ told.Memory) → is ≡ told.Store → read ≡ Err NotRows
unread fault is read fails memory store = subst (λ f. Fails f read) (not_rows fault is memory store) fails

pub same_err : {X : Type 0} (a b : StoreFault) → ◌≡◌ {A = Result X StoreFault} (Err a) (Err b) → a ≡ b
same_err a b h = cc

-- what a call told, and the function after it
pub err_told : {X Y : Type 0} (result : Result X StoreFault) (e f : StoreFault) → result ≡ Err e → e ≡ f → result ≡ Err told.Store → ◌≡◌ {A = Result Y StoreFault} (Err f) (Err told.Store)
err_told result e f is same store = ap Err (sym same ∙ same_err e told.Store (sym is ∙ store))

-- where nothing was looked at
pub no_faults : (d : Database) → KeepsFaults d d
no_faults d = record { counts = omega arith; limit = refl; closes = λ clean is_open. inl is_open }

-- a state is stored behind a transaction that has ended
pub never_inside : (old new : Database) → old.in_transaction ≡ true → FailsOfState old new
never_inside old new inside clean ready s stored = absurd (true≢false (sym inside ∙ stored.idle))
