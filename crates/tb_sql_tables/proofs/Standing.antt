-- What a transaction leaves of what stood before it.
use Rattle.std.proofs.Common.{◌≡◌, ◌⊎◌, ◌∙◌, inl, inr, IsTrue, false, arith, sym, ap, subst}
use Rattle.sqlite_trees.specs.Tree.{Trees}
use Rattle.sqlite.specs.declared.error.Error.{Error}
use Rattle.sqlite.specs.Effect.{Database}
use Rattle.sqlite.specs.State.{State, HasCleanDisk, Shows, Survives, IsRolledBack, KeepsCommit}
use Rattle.sqlite.specs.Steps.{FailsToCommit}
use Rattle.tb_sql_tables.specs.Content.{StandsBy}
use Rattle.tb_sql_tables.specs.Statements.{Turns}

module _ (Seen : Database → Type 0) (Left : Trees → Type 0) (old mid new : State) (stands : StandsBy Seen Left old) (inside : Survives old mid (λ _. ⊥)) where
  -- a transaction that is undone leaves what stood
  pub undone_stands : (HasCleanDisk mid → KeepsCommit old mid) → (HasCleanDisk new → IsRolledBack mid new) → Survives mid new (λ _. ⊥) → StandsBy Seen Left new
  undone_stands kept undone ended = record {
    seen = λ clean is_open.
        let mid_clean : HasCleanDisk mid = omega (arith, ended.clean) in
        let old_clean : HasCleanDisk old = omega (arith, inside.clean, ended.clean) in
        let back = undone clean in
        let mid_open = back.was_open is_open in
        let k = kept mid_clean in
        let both = back.undone is_open in
        let was = stands.seen old_clean (k.was_open mid_open) in
        let now : new.now ≡ old.now = both.0 ∙ k.committed mid_open ∙ was.1 in
        (subst Seen (sym now) was.0, both.1 ∙ sym both.0);
    left = λ clean db may.
        let mid_clean : HasCleanDisk mid = omega (arith, ended.clean) in
        let old_clean : HasCleanDisk old = omega (arith, inside.clean, ended.clean) in
        elim (ended.crash clean db may) [
          | inl before ↦ elim (inside.crash mid_clean db before) [ inl first ↦ stands.left old_clean db first | inr none ↦ absurd none ]
          | inr none ↦ absurd none
        ];
  }

  module _ (Becomes : Database → Type 0) (Leaves : Trees → Type 0) (leaves : (db : Database) → Becomes db → Leaves db.trees) (turned : HasCleanDisk mid → Turns Seen Becomes old mid)
      (ended : Survives mid new (λ db. db ≡ mid.now.trees)) where
    mid_clean : HasCleanDisk new → HasCleanDisk mid
    mid_clean clean = omega (arith, ended.clean)

    old_clean : HasCleanDisk new → HasCleanDisk old
    old_clean clean = omega (arith, inside.clean, ended.clean)

    -- what the transaction sees before its commit
    at_commit : HasCleanDisk new → Becomes mid.now
    at_commit clean =
        let turn = turned (mid_clean clean) in
        turn.made (stands.seen (old_clean clean) turn.shown.was_open).0

    pub committed_stands : ((db : Trees) → IsTrue new.is_open → new.may_leave db → db ≡ new.committed.trees) → (HasCleanDisk new → Shows mid new mid.now mid.now false) → StandsBy Becomes Leaves new
    committed_stands settled shows = record {
      seen = λ clean is_open.
          let s = shows clean in
          (subst Becomes (sym s.now_is) (at_commit clean), s.committed_is ∙ sym s.now_is);
      left = λ clean db may.
          let s = shows clean in
          let is : db ≡ mid.now.trees = settled db s.is_open may ∙ ap (λ (d : Database). d.trees) s.committed_is in
          subst Leaves (sym is) (leaves mid.now (at_commit clean));
    }

    -- the connection sees what was before, and a stop may leave either
    pub failed_stands : (e : Error) → (HasCleanDisk new → FailsToCommit mid new e) → StandsBy (λ db. Seen db ⊎ Becomes db) (λ db. Left db ⊎ Leaves db) new
    failed_stands e fails = record {
      seen = λ clean is_open.
          let turn = turned (mid_clean clean) in
          let was = stands.seen (old_clean clean) turn.shown.was_open in
          elim (fails clean) [
            | inl failed ↦
                let both = failed.3.undone is_open in
                let now : new.now ≡ old.now = both.0 ∙ turn.shown.committed_is ∙ was.1 in
                (inl (subst Seen (sym now) was.0), both.1 ∙ sym both.0)
            | inr late ↦ absurd (let inside_it = turn.shown.mode in let outside = late.1 in cc)
          ];
      left = λ clean db may. elim (ended.crash clean db may) [
        | inl before ↦ elim (inside.crash (mid_clean clean) db before) [ inl first ↦ inl (stands.left (old_clean clean) db first) | inr none ↦ absurd none ]
        | inr is ↦ inr (subst Leaves (sym is) (leaves mid.now (at_commit clean)))
      ];
    }
