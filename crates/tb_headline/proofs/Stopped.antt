-- What a stop within an opening leaves of a file.
use Rattle.std.proofs.Common.{◌≡◌, ◌≢◌, ◌⊎◌, ◌∙◌, Bool, true, false, IsTrue, inl, inr, refl, sym, ap, subst}
use Rattle.sqlite.specs.Effect.{Database as Contents}
use Rattle.sqlite.specs.State.{IsLive, State as Database}
use Rattle.tb_sql_tables.specs.Failing.{IsAtRest}
use Rattle.sqlite_trees.specs.Tree.{Trees}
use Rattle.tb_calls.specs.Call.{State}
use Rattle.tb_sql.specs.declared.opening.OpenFault.{OpenFault}
use Rattle.tb_sql.specs.declared.opening.OpenFault.TheVariants.{Store}
use Rattle.tb_sql.specs.declared.opening.Version.TheVariants.{First, Second, Third}
use Rattle.tb_sql.specs.Opening.{has_tables, is_old, is_second, IsAsBefore}
use Rattle.tb_sql.proofs.Opened.{rows_third}
use Rattle.tb_sql_tables.specs.Content.{AreRows, Content}
use Rattle.tb_lookup.specs.Stored.{AreOldTreesOf, AreTreesOf}
use Rattle.tb_lookup.specs.Migrating.{IsStoredInEither}
use Rattle.tb_headline.specs.Headline.{IsFileOf, StopLeaves}

-- the tables of this version aren't those of one before
not_old : (d : Database) (content : Content) → IsAtRest d → IsLive d → AreRows content d.now.trees → (old : Bool) → is_old d.now.schema ≡ old → is_old d.now.schema ≡ false
not_old d content opens live rows false is = is
not_old d content opens live rows true is = absurd (let same : First ≡ Third = rows_third d content First opens live is rows in cc)

not_second : (d : Database) (content : Content) → IsAtRest d → IsLive d → AreRows content d.now.trees → (second : Bool) → is_second d.now.schema ≡ second → is_second d.now.schema ≡ false
not_second d content opens live rows false is = is
not_second d content opens live rows true is = absurd (let same : Second ≡ Third = rows_third d content Second opens live is rows in cc)

-- what is left of rows in the tables of a version before
in_either : (s : State) (d : Database) → IsStoredInEither s d → StopLeaves d (IsFileOf s)
in_either s d (inl stored) clean db left = elim (stored.stands.left clean db left) [
  | inl is ↦ inr (inl (record { content = stored.before; rows = stored.rows_before; stored = is }))
  | inr is ↦ inl (record { content = stored.after; rows = stored.rows_after; stored = is })
]
in_either s d (inr stored) clean db left = elim (stored.stands.left clean db left) [
  | inl is ↦ inr (inr (record { content = stored.before; rows = stored.rows_before; stored = is }))
  | inr is ↦ inl (record { content = stored.after; rows = stored.rows_after; stored = is })
]

module _ (old new : Database) (settled : (db : Trees) → IsTrue old.is_open → old.may_leave db → db ≡ old.committed.trees) where
  -- what is left of rows that stay as they were
  as_before : (s : State) → IsAtRest old → AreTreesOf s old.now.trees → IsAsBefore old new → StopLeaves new (IsFileOf s)
  as_before s opens rows same clean db left =
      let is : db ≡ old.now.trees = settled db opens.is_open (same.left clean db left) ∙ ap (λ (d : Contents). d.trees) (sym opens.clean) in
      inl (subst (AreTreesOf s) (sym is) rows)

  pub stopped : (fault : OpenFault) → IsLive old → ((fault ≢ Store) ⊎ ((is_old old.now.schema ≡ false) × (is_second old.now.schema ≡ false)) → IsAsBefore old new)
      → (IsAtRest old → (s : State) → AreOldTreesOf s old.now.trees → IsStoredInEither s new)
      → IsAtRest old → (s : State) → IsFileOf s old.now.trees → StopLeaves new (IsFileOf s)
  stopped fault live same either opens s (inl rows) =
      as_before s opens rows
      (same (inr (not_old old rows.content opens live rows.stored (is_old old.now.schema) refl, not_second old rows.content opens live rows.stored (is_second old.now.schema) refl)))
  stopped fault live same either opens s (inr rows) = in_either s new (either opens s rows)
