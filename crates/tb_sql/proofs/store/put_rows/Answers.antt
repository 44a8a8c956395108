use Rattle.std.proofs.Common.{arith}
use Rattle.sqlite.specs.Held.{state}
use Rattle.sqlite.specs.State.{HasCleanDisk}
use Rattle.tb_sql_tables.specs.Statements.{Changes}
use Rattle.tb_sql_tables.proofs.Changing.{changes_then, where_ok}
use Rattle.tb_sql.specs.Changes.{with_kept}
use Rattle.tb_sql.specs.Writing.{changed_by_all}
use Rattle.tb_sql.proofs.store.put_rows.Goals as goal

pub returns-clause-put : goal.returns-clause-put
returns-clause-put g c clean inside =
    let old = state g.S.Store c.args.tx.now.conn.now in
    let mid = state g.S.Store c.insert_kept.new.tx.conn.now in
    let new = state g.S.Store c.apply_changes.new.tx.conn.now in
    let mid_clean : HasCleanDisk mid = omega (arith, c.apply_changes.ensures.survives.clean) in
    let first : Changes (with_kept c.args.kept.now) old mid = c.in_ok-insert_kept.ensures.put mid_clean inside in
    where_ok c.apply_changes.result (changes_then (with_kept c.args.kept.now) (changed_by_all c.args.changes.now) old mid new first) (c.apply_changes.ensures.put clean first.shown.mode first.shown.is_open)
