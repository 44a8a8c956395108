use Rattle.std.proofs.Common.{arith}
use Rattle.sqlite.specs.Held.{state}
use Rattle.sqlite.specs.State.{HasCleanDisk}
use Rattle.tb_sql_tables.specs.Content.{nothing, IsContent}
use Rattle.tb_sql_tables.specs.Standing.{HasNoTables}
use Rattle.tb_sql_tables.specs.Statements.{Turns}
use Rattle.tb_sql_tables.proofs.Changing.{turns_of, turns_then, where_ok}
use Rattle.tb_sql.specs.Writing.{changed_by_all, opening}
use Rattle.tb_sql.proofs.store.put_tables.Goals as goal

pub returns-clause-made : goal.returns-clause-made
returns-clause-made g c clean inside =
    let old = state g.S.Store c.args.tx.now.conn.now in
    let mid = state g.S.Store c.create_all.new.tx.conn.now in
    let new = state g.S.Store c.apply_changes.new.tx.conn.now in
    let mid_clean : HasCleanDisk mid = omega (arith, c.apply_changes.ensures.survives.clean) in
    let first : Turns HasNoTables (IsContent nothing) old mid = c.in_ok-create_all.ensures.made mid_clean inside in
    where_ok c.apply_changes.result (λ change. turns_then HasNoTables (IsContent nothing) (IsContent (opening c.args.rows.now)) old mid new first (turns_of (changed_by_all c.args.rows.now) mid new nothing change))
    (c.apply_changes.ensures.put clean first.shown.mode first.shown.is_open)
