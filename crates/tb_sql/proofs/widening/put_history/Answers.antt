use Rattle.std.proofs.Common.{arith}
use Rattle.std.proofs.lemmas.Result.{IfOk-weaker}
use Rattle.sqlite.specs.Held.{state}
use Rattle.sqlite.specs.State.{HasCleanDisk}
use Rattle.tb_sql_tables.specs.Content.{nothing, without_history, Content, IsContent}
use Rattle.tb_sql_tables.specs.Standing.{IsSecondContent}
use Rattle.tb_sql_tables.specs.Statements.{Turns}
use Rattle.tb_sql_tables.proofs.Changing.{commit_kept_then, turns_then}
use Rattle.tb_sql.specs.Migrating.{IsWidened}
use Rattle.tb_sql.proofs.Migrated.{turned_kept, where_err}
use Rattle.tb_sql.proofs.widening.put_history.Goals as goal

pub returns-clause-made : goal.returns-clause-made
returns-clause-made g c clean inside =
    let a = state g.S.Store c.args.tx.now.conn.now in
    let b = state g.S.Store c.create_history.new.tx.conn.now in
    let d = state g.S.Store c.count.new.tx.conn.now in
    let clean_b : HasCleanDisk b = omega (arith, c.count.ensures.survives.clean) in
    let first : (content : Content) → Turns (IsSecondContent content) (IsContent (without_history content)) a b = c.in_ok-create_history.ensures.added clean_b inside in
    IfOk-weaker c.count.result _ _
    (λ counts next content. turns_then (IsSecondContent content) (IsContent (without_history content)) (IsWidened content counts) a b d (first content) (next content))
    (c.count.ensures.made clean (first nothing).shown.mode)

pub returns-clause-kept : goal.returns-clause-kept
returns-clause-kept g c clean inside =
    let a = state g.S.Store c.args.tx.now.conn.now in
    let b = state g.S.Store c.create_history.new.tx.conn.now in
    let d = state g.S.Store c.count.new.tx.conn.now in
    let clean_b : HasCleanDisk b = omega (arith, c.count.ensures.survives.clean) in
    let first : Turns (IsSecondContent nothing) (IsContent (without_history nothing)) a b = c.in_ok-create_history.ensures.added clean_b inside nothing in
    where_err c.count.result (commit_kept_then a b d (turned_kept _ _ a b first)) (c.count.ensures.kept clean first.shown.mode)
