use Rattle.std.proofs.Common.{rules, ◌≡◌, refl, subst}
use Rattle.sqlite.specs.Held.{state}
use Rattle.sqlite.specs.State.{HasCleanDisk, Survives}
use Rattle.sqlite.proofs.Callers.{survives_begin}
use Rattle.sqlite_catalog.specs.Listing.{IsSound}
use Rattle.tb_sql_tables.specs.Tables.{no_schema}
use Rattle.tb_sql_tables.specs.Content.{AreOldRows}
use Rattle.tb_sql_tables.specs.Standing.{IsOldContent, StandsOld, StandsEmptyOrOld, HasNoTables}
use Rattle.tb_sql_tables.specs.Statements.{Turns}
use Rattle.tb_sql_tables.proofs.Changing.{turns_begun}
use Rattle.tb_sql_tables.proofs.Standing.{committed_stands, failed_stands}
use Rattle.tb_sql.specs.FirstVersion.{first_content}
use Rattle.tb_sql.proofs.first_version.create_v1.Goals as goal

pub returns-in-Ok-clause-done : goal.returns-in-Ok-clause-done
returns-in-Ok-clause-done g c stands =
    let old = state g.S.Store c.args.conn.now in
    let mid = state g.S.Store c.put_first.new.tx.conn.now in
    let after = first_content c.args.person.now c.args.board.now c.args.role.now in
    let begun = c.transaction-making.ensures.begun in
    let inside : Survives old mid (λ _. ⊥) = survives_begin g.S.Store c.args.conn.now mid _ (rw begun at c.put_first.ensures.survives) in
    let turned : HasCleanDisk mid → Turns HasNoTables (IsOldContent after) old mid =
    λ clean. turns_begun g.S.Store c.args.conn.now mid _ _ ((rw begun at c.in_default.ensures.made) clean refl) in
    let end = c.commit.new.self.0 in
    let stands_now : StandsOld after (state g.S.Store end) =
    committed_stands HasNoTables (IsSound no_schema) old mid (state g.S.Store end) stands inside (IsOldContent after) (AreOldRows after) (λ db is. is.rows) turned c.commit.ensures.survives
    (λ db is_open. g.met.S.Store.settled end.store db is_open) (λ clean. (c.in-Ok.ensures.ok clean).1) in
    let same : end ≡ c.conn-2-1.given.0 = search rules in
    subst (λ h. StandsOld after (state g.S.Store h)) same stands_now

pub returns-in-Err-commit-clause-store : goal.returns-in-Err-commit-clause-store
returns-in-Err-commit-clause-store g c _ stands =
    let old = state g.S.Store c.args.conn.now in
    let mid = state g.S.Store c.put_first.new.tx.conn.now in
    let after = first_content c.args.person.now c.args.board.now c.args.role.now in
    let begun = c.transaction-making.ensures.begun in
    let inside : Survives old mid (λ _. ⊥) = survives_begin g.S.Store c.args.conn.now mid _ (rw begun at c.put_first.ensures.survives) in
    let turned : HasCleanDisk mid → Turns HasNoTables (IsOldContent after) old mid =
    λ clean. turns_begun g.S.Store c.args.conn.now mid _ _ ((rw begun at c.in_default.ensures.made) clean refl) in
    let end = c.commit.new.self.0 in
    let stands_now : StandsEmptyOrOld after (state g.S.Store end) =
    failed_stands HasNoTables (IsSound no_schema) old mid (state g.S.Store end) stands inside (IsOldContent after) (AreOldRows after) (λ db is. is.rows) turned c.commit.ensures.survives
    c.in-Err-commit.field-0 c.in-Err-commit.ensures.err in
    let same : end ≡ c.conn-2-1.given.0 = search rules in
    subst (λ h. StandsEmptyOrOld after (state g.S.Store h)) same stands_now
