use Rattle.std.proofs.Common.{arith}
use Rattle.std.proofs.lemmas.Result.{IfOk-weaker}
use Rattle.sqlite.specs.Held.{state}
use Rattle.sqlite.specs.State.{HasCleanDisk}
use Rattle.tb_sql_tables.specs.Content.{old_part, nothing, Content, IsContent}
use Rattle.tb_sql_tables.specs.Standing.{IsOldContent}
use Rattle.tb_sql_tables.specs.Statements.{Turns}
use Rattle.tb_sql_tables.proofs.Changing.{commit_kept_then, turns_then}
use Rattle.tb_sql.specs.Migrating.{IsMigrated}
use Rattle.tb_sql.proofs.Migrated.{turned_kept, where_err}
use Rattle.tb_sql.proofs.migrating.put_third.Goals as goal

pub returns-clause-made : goal.returns-clause-made
returns-clause-made g c clean inside =
    let a = state g.S.Store c.args.tx.now.conn.now in
    let b = state g.S.Store c.widen.new.tx.conn.now in
    let d = state g.S.Store c.fill.new.tx.conn.now in
    let clean_b : HasCleanDisk b = omega (arith, c.fill.ensures.survives.clean) in
    let first : (content : Content) → Turns (IsOldContent content) (IsContent (old_part content)) a b = c.in_ok-widen.ensures.made clean_b inside in
    IfOk-weaker c.fill.result _ _
    (λ counts next content. turns_then (IsOldContent content) (IsContent (old_part content)) (IsMigrated content counts) a b d (first content) (next content))
    (c.fill.ensures.made clean (first nothing).shown.mode)

pub returns-clause-kept : goal.returns-clause-kept
returns-clause-kept g c clean inside =
    let a = state g.S.Store c.args.tx.now.conn.now in
    let b = state g.S.Store c.widen.new.tx.conn.now in
    let d = state g.S.Store c.fill.new.tx.conn.now in
    let clean_b : HasCleanDisk b = omega (arith, c.fill.ensures.survives.clean) in
    let first : Turns (IsOldContent nothing) (IsContent (old_part nothing)) a b = c.in_ok-widen.ensures.made clean_b inside nothing in
    where_err c.fill.result (commit_kept_then a b d (turned_kept _ _ a b first)) (c.fill.ensures.kept clean first.shown.mode)
