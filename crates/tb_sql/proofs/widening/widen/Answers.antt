use Rattle.std.proofs.Common.{rules, ◌≡◌, IsTrue, refl, subst}
use Rattle.sqlite.specs.Held.{state}
use Rattle.sqlite.specs.State.{HasCleanDisk, Survives}
use Rattle.sqlite.proofs.Callers.{survives_begin}
use Rattle.tb_sql_tables.specs.Content.{without_history, AreSecondRows, AreRows, IsContent, StandsBy}
use Rattle.tb_sql_tables.specs.Standing.{IsSecondContent, StandsSecondOr}
use Rattle.tb_sql_tables.specs.Statements.{Turns}
use Rattle.tb_sql_tables.proofs.Changing.{turns_begun}
use Rattle.tb_sql_tables.proofs.Standing.{committed_stands, failed_stands}
use Rattle.tb_sql.specs.Migrating.{IsWidened}
use Rattle.tb_sql.proofs.Migrated.{only_rows}
use Rattle.tb_sql.proofs.widening.widen.Goals as goal

pub returns-in-Ok-commit-clause-done : goal.returns-in-Ok-commit-clause-done
returns-in-Ok-commit-clause-done g c content stands =
    let old = state g.S.Store c.args.conn.now in
    let mid = state g.S.Store c.put_history.new.tx.conn.now in
    let counts = c.in-Ok.counts in
    let begun = c.transaction-tx.ensures.begun in
    let inside : Survives old mid (λ _. ⊥) = survives_begin g.S.Store c.args.conn.now mid _ (rw begun at c.put_history.ensures.survives) in
    let turned : HasCleanDisk mid → Turns (IsSecondContent content) (IsWidened content counts) old mid =
    λ clean. turns_begun g.S.Store c.args.conn.now mid _ _ ((rw begun at c.in-Ok.ensures.made) clean refl content) in
    let end = c.commit.new.self.0 in
    let stands_now : StandsBy (IsWidened content counts) (AreRows (without_history content)) (state g.S.Store end) =
    committed_stands (IsSecondContent content) (AreSecondRows content) old mid (state g.S.Store end) stands inside (IsWidened content counts) (AreRows (without_history content)) (λ db is. is.is.rows) turned c.commit.ensures.survives
    (λ db is_open. g.met.S.Store.settled end.store db is_open) (λ clean. (c.in-Ok-commit.ensures.ok clean).1) in
    let same : end ≡ c.conn-2-1.given.0 = search rules in
    subst (λ h. StandsBy (IsWidened content counts) (AreRows (without_history content)) (state g.S.Store h)) same stands_now

pub returns-in-Err-commit-clause-store : goal.returns-in-Err-commit-clause-store
returns-in-Err-commit-clause-store g c _ content stands =
    let old = state g.S.Store c.args.conn.now in
    let mid = state g.S.Store c.put_history.new.tx.conn.now in
    let counts = c.in-Ok.counts in
    let begun = c.transaction-tx.ensures.begun in
    let inside : Survives old mid (λ _. ⊥) = survives_begin g.S.Store c.args.conn.now mid _ (rw begun at c.put_history.ensures.survives) in
    let turned : HasCleanDisk mid → Turns (IsSecondContent content) (IsContent (without_history content)) old mid =
    λ clean. turns_begun g.S.Store c.args.conn.now mid _ _ (only_rows content counts _ mid ((rw begun at c.in-Ok.ensures.made) clean refl content)) in
    let end = c.commit.new.self.0 in
    let stands_now : StandsSecondOr content (without_history content) (state g.S.Store end) =
    failed_stands (IsSecondContent content) (AreSecondRows content) old mid (state g.S.Store end) stands inside (IsContent (without_history content)) (AreRows (without_history content)) (λ db is. is.rows) turned c.commit.ensures.survives
    c.in-Err-commit.field-0 c.in-Err-commit.ensures.err in
    let same : end ≡ c.conn-2-1.given.0 = search rules in
    subst (λ h. StandsSecondOr content (without_history content) (state g.S.Store h)) same stands_now

pub returns-in-Ok-commit-clause-usable : goal.returns-in-Ok-commit-clause-usable
returns-in-Ok-commit-clause-usable g c =
    let end = c.commit.new.self.0 in
    let shown : HasCleanDisk (state g.S.Store end) → IsTrue (state g.S.Store end).is_open = λ clean. (c.in-Ok-commit.ensures.ok clean).1.is_open in
    let same : end ≡ c.conn-2-1.given.0 = search rules in
    subst (λ h. HasCleanDisk (state g.S.Store h) → IsTrue (state g.S.Store h).is_open) same shown
