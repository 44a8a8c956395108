-- What stands on a connection.
use Rattle.std.proofs.Common.{◌≡◌, ◌∙◌, inl, inr, false, true, sym, IsTrue}
use Rattle.sqlite_trees.specs.declared.store.Store.{Ghosts}
use Rattle.sqlite.specs.Held.{Held, state}
use Rattle.sqlite.specs.State.{HasCleanDisk, State as Database}
use Rattle.tb_calls.specs.Call.{State}
use Rattle.tb_sql.specs.Opening.{IsAsBefore}
use Rattle.tb_sql.proofs.Opened.{stands_again}
use Rattle.tb_sql_tables.specs.Content.{AreRows, Content, IsContent, Stands}
use Rattle.tb_sql_tables.specs.Statements.{Finds}
use Rattle.tb_sql_tables.specs.Failing.{FailsByFault, KeepsFaults, IsAtRest}
use Rattle.tb_sql_tables.proofs.Failing.{fault_before, fault_behind, still_ready}
use Rattle.tb_lookup.proofs.Contents.{IsThere}
use Rattle.tb_lookup.specs.Stored.{IsStored}

module _ {S : Type 0} (g : Ghosts S) where
  -- what a transaction that has just begun finds is of what stands
  pub found_standing : (h : Held S) (P : Content → Type 0) → Finds P (state g (record h { in_transaction = true })) → HasCleanDisk (state g h) → (content : Content) → Stands content (state g h) → P content
  found_standing h P finds clean content stands = finds.found content (stands.seen clean finds.was_open).0

-- one look after another
pub before_then : (a b c : Database) → IsAsBefore a b → IsAsBefore b c → IsAsBefore a c
before_then a b c first second = record {
  clean = λ clean. first.clean (second.clean clean);
  was_open = λ clean is_open. first.was_open (second.clean clean) (second.was_open clean is_open);
  seen = λ clean is_open same.
      let one = first.seen (second.clean clean) (second.was_open clean is_open) same in
      let two = second.seen clean is_open (one.1 ∙ sym one.0) in
      (two.0 ∙ one.0, two.1 ∙ one.0);
  left = λ clean db may. first.left (second.clean clean) db (second.left clean db may);
}

-- what stood stands
pub stood : (c : Content) (old new : Database) → Stands c old → IsAsBefore old new → Stands c new
stood c old new stands same = stands_again (IsContent c) (AreRows c) old new stands same

-- a content that was there stands behind an opening
pub there_stands : (c : Content) (old mid : Database) → IsThere c old → IsAsBefore old mid → (IsAtRest old → (c : Content) → AreRows c old.now.trees → Stands c mid) → Stands c mid
there_stands c old mid (inl stands) same shows = stood c old mid stands same
there_stands c old mid (inr opened) same shows = shows opened.0 c opened.1

-- what is stored stays so
pub stored_again : (s : State) (old new : Database) → IsStored s old → IsAsBefore old new → new.in_transaction ≡ false → IsStored s new
stored_again s old new stored before idle = record {
  content = stored.content;
  rows = stored.rows;
  stands = stood stored.content old new stored.stands before;
  idle = idle;
}

-- ---- faults

-- a look behind another fails by a fault since before both
pub fails_then : (P Q : Content → Type 0) (a b c : Database) → (HasCleanDisk b → IsTrue b.is_open → (content : Content) → P content → Q content) → KeepsFaults a b → (HasCleanDisk c → HasCleanDisk b) → KeepsFaults b c
    → FailsByFault b c Q → FailsByFault a c P
fails_then P Q a b c stays kept before later fails clean ready content was = elim (still_ready a b kept (before clean) ready) [
  | inl still ↦ fault_behind a b c kept.counts (fails clean still content (stays (before clean) still.is_open content was))
  | inr fault ↦ fault_before a b c fault later.counts
]
