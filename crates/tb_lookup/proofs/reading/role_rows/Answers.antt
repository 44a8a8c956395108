use Rattle.std.proofs.Common.{rules}
use Rattle.sqlite.specs.Held.{state}
use Rattle.sqlite.specs.State.{HasCleanDisk}
use Rattle.sqlite.proofs.Callers.{survives_begin}
use Rattle.tb_sql_tables.proofs.Failing.{look_keeps_faults}
use Rattle.tb_lookup.proofs.Standing.{found_standing}
use Rattle.tb_lookup.proofs.reading.role_rows.Goals as goal

pub returns-in-Ok-clause-found : goal.returns-in-Ok-clause-found
returns-in-Ok-clause-found g c clean content stands =
    let mid = c.select_roles-found.new.tx.conn.now in
    let mid_clean : HasCleanDisk (state g.S.Store mid) = search rules in
    let old_clean : HasCleanDisk (state g.S.Store c.args.conn.now) = search rules in
    found_standing g.S.Store c.args.conn.now _ (rw c.transaction-tx.ensures.begun at (c.in-Ok.ensures.found mid_clean)) old_clean content stands

pub returns-in-Ok-clause-faults : goal.returns-in-Ok-clause-faults
returns-in-Ok-clause-faults g c =
    let mid = state g.S.Store c.select_roles-found.new.tx.conn.now in
    let inside = survives_begin g.S.Store c.args.conn.now mid (λ _. ⊥) (rw c.transaction-tx.ensures.begun at c.select_roles-found.ensures.survives) in
    look_keeps_faults _ mid _ inside (search rules)

pub returns-in-Err-clause-faults : goal.returns-in-Err-clause-faults
returns-in-Err-clause-faults g c =
    let mid = state g.S.Store c.select_roles-found.new.tx.conn.now in
    let inside = survives_begin g.S.Store c.args.conn.now mid (λ _. ⊥) (rw c.transaction-tx.ensures.begun at c.select_roles-found.ensures.survives) in
    look_keeps_faults _ mid _ inside (search rules)
