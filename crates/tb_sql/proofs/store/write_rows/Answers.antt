use Rattle.std.proofs.Common.{rules, ◌≡◌, refl, subst}
use Rattle.sqlite.specs.Held.{state}
use Rattle.sqlite.specs.State.{HasCleanDisk, Survives}
use Rattle.sqlite.proofs.Callers.{survives_begin}
use Rattle.tb_sql_tables.specs.Content.{AreRows, IsContent, Stands, StandsAsEither}
use Rattle.tb_sql_tables.specs.Statements.{Turns}
use Rattle.tb_sql_tables.proofs.Changing.{turns_begun, turns_of}
use Rattle.tb_sql_tables.proofs.Standing.{committed_stands, failed_stands}
use Rattle.tb_sql.specs.Writing.{written}
use Rattle.tb_sql.proofs.store.write_rows.Goals as goal

pub returns-in-Ok-clause-done : goal.returns-in-Ok-clause-done
returns-in-Ok-clause-done g c content stands =
    let old = state g.S.Store c.args.conn.now in
    let mid = state g.S.Store c.put_rows.new.tx.conn.now in
    let after = written c.args.changes.now c.args.kept.now content in
    let begun = c.transaction-tx.ensures.begun in
    let inside : Survives old mid (λ _. ⊥) = survives_begin g.S.Store c.args.conn.now mid _ (rw begun at c.put_rows.ensures.survives) in
    let turned : HasCleanDisk mid → Turns (IsContent content) (IsContent after) old mid =
    λ clean. turns_begun g.S.Store c.args.conn.now mid _ _ (turns_of _ _ mid content ((rw begun at c.in_default.ensures.put) clean refl)) in
    let end = c.commit.new.self.0 in
    let stands_now : Stands after (state g.S.Store end) =
    committed_stands (IsContent content) (AreRows content) old mid (state g.S.Store end) stands inside (IsContent after) (AreRows after) (λ db is. is.rows) turned c.commit.ensures.survives
    (λ db is_open. g.met.S.Store.settled end.store db is_open) (λ clean. (c.in-Ok.ensures.ok clean).1) in
    let same : end ≡ c.conn-2-1.given.0 = search rules in
    subst (λ h. Stands after (state g.S.Store h)) same stands_now

pub returns-in-Err-commit-clause-store : goal.returns-in-Err-commit-clause-store
returns-in-Err-commit-clause-store g c _ content stands =
    let old = state g.S.Store c.args.conn.now in
    let mid = state g.S.Store c.put_rows.new.tx.conn.now in
    let after = written c.args.changes.now c.args.kept.now content in
    let begun = c.transaction-tx.ensures.begun in
    let inside : Survives old mid (λ _. ⊥) = survives_begin g.S.Store c.args.conn.now mid _ (rw begun at c.put_rows.ensures.survives) in
    let turned : HasCleanDisk mid → Turns (IsContent content) (IsContent after) old mid =
    λ clean. turns_begun g.S.Store c.args.conn.now mid _ _ (turns_of _ _ mid content ((rw begun at c.in_default.ensures.put) clean refl)) in
    let end = c.commit.new.self.0 in
    let stands_now : StandsAsEither content after (state g.S.Store end) =
    failed_stands (IsContent content) (AreRows content) old mid (state g.S.Store end) stands inside (IsContent after) (AreRows after) (λ db is. is.rows) turned c.commit.ensures.survives
    c.in-Err-commit.field-0 c.in-Err-commit.ensures.err in
    let same : end ≡ c.conn-2-1.given.0 = search rules in
    subst (λ h. StandsAsEither content after (state g.S.Store h)) same stands_now
