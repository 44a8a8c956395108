use Rattle.std.proofs.Common.{arith}
use Rattle.sqlite.specs.Held.{state}
use Rattle.sqlite.specs.State.{HasCleanDisk}
use Rattle.tb_sql_tables.specs.Content.{old_part, nothing, Content, IsContent}
use Rattle.tb_sql_tables.specs.Standing.{IsHalfway, IsOldContent, IsQuarterway}
use Rattle.tb_sql_tables.specs.Statements.{Turns}
use Rattle.tb_sql_tables.proofs.Changing.{turns_then, where_ok}
use Rattle.tb_sql.proofs.migrating.widen.Goals as goal

pub returns-clause-made : goal.returns-clause-made
returns-clause-made g c clean inside =
    let a = state g.S.Store c.args.tx.now.conn.now in
    let b = state g.S.Store c.create_horizon.new.tx.conn.now in
    let m = state g.S.Store c.create_history.new.tx.conn.now in
    let d = state g.S.Store c.update_version.new.tx.conn.now in
    let clean_m : HasCleanDisk m = omega (arith, c.update_version.ensures.survives.clean) in
    let clean_b : HasCleanDisk b = omega (arith, clean_m, c.create_history.ensures.survives.clean) in
    let first : (content : Content) → Turns (IsOldContent content) (IsQuarterway content) a b = c.in_ok-create_horizon.ensures.added clean_b inside in
    let second : (content : Content) → Turns (IsQuarterway content) (IsHalfway content) b m = c.in_ok-create_history.ensures.both clean_m (first nothing).shown.mode in
    let both : (content : Content) → Turns (IsOldContent content) (IsHalfway content) a m = λ content. turns_then (IsOldContent content) (IsQuarterway content) (IsHalfway content) a b m (first content) (second content) in
    where_ok c.update_version.result (λ next content. turns_then (IsOldContent content) (IsHalfway content) (IsContent (old_part content)) a m d (both content) (next content))
    (c.update_version.ensures.made clean (second nothing).shown.mode)
