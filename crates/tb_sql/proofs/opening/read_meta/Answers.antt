use Rattle.std.proofs.Common.{◌≡◌, ◌≢◌, rules}
use Rattle.sqlite.specs.Held.{state}
use Rattle.sqlite.specs.State.{HasCleanDisk}
use Rattle.sqlite.specs.declared.error.ErrorCode.TheVariants.{OutOfMemory}
use Rattle.sqlite.specs.declared.error.Error.TheVariants.{SqliteFailure}
use Rattle.sqlite.proofs.Callers.{survives_begin}
use Rattle.tb_sql_tables.proofs.Failing.{look_keeps_faults}
use Rattle.tb_sql.specs.declared.store.StoreFault.TheVariants.{Memory}
use Rattle.tb_sql.proofs.opening.read_meta.Goals as goal

pub returns-in-Ok-clause-shown : goal.returns-in-Ok-clause-shown
returns-in-Ok-clause-shown g c clean =
    let mid = c.select_meta-found.new.tx.conn.now in
    let mid_clean : HasCleanDisk (state g.S.Store mid) = search rules in
    (mid, (rw c.transaction-tx.ensures.begun at (c.in-Ok.ensures.shown mid_clean)))

pub returns-in-Ok-clause-faults : goal.returns-in-Ok-clause-faults
returns-in-Ok-clause-faults g c =
    let mid = state g.S.Store c.select_meta-found.new.tx.conn.now in
    let inside = survives_begin g.S.Store c.args.conn.now mid (λ _. ⊥) (rw c.transaction-tx.ensures.begun at c.select_meta-found.ensures.survives) in
    look_keeps_faults _ mid _ inside (search rules)

pub returns-in-Err-clause-faults : goal.returns-in-Err-clause-faults
returns-in-Err-clause-faults g c =
    let mid = state g.S.Store c.select_meta-found.new.tx.conn.now in
    let inside = survives_begin g.S.Store c.args.conn.now mid (λ _. ⊥) (rw c.transaction-tx.ensures.begun at c.select_meta-found.ensures.survives) in
    look_keeps_faults _ mid _ inside (search rules)

pub returns-in-Err-clause-hides : goal.returns-in-Err-clause-hides
returns-in-Err-clause-hides g c is clean ready version other store =
    let mid = c.select_meta-found.new.tx.conn.now in
    let mid_clean : HasCleanDisk (state g.S.Store mid) = search rules in
    let reads = rw c.transaction-tx.ensures.begun at (c.in-Err.ensures.hides mid_clean) in
    let room : c.in-Err.error ≢ SqliteFailure OutOfMemory = λ e. absurd (let memory : c.before_commit.result ≡ Memory = c.before_commit.ensures.1 e in cc) in
    let faulted = reads room (record { is_open = ready.is_open; unlimited = ready.unlimited }) version store in
    search rules
