use Rattle.std.proofs.Common.{arith}
use Rattle.sqlite.specs.Held.{state}
use Rattle.sqlite.specs.State.{HasCleanDisk}
use Rattle.tb_sql_tables.specs.Statements.{Changes}
use Rattle.tb_sql.proofs.Migrated.{counted}
use Rattle.tb_sql.proofs.widening.count.Goals as goal

pub returns-clause-made : goal.returns-clause-made
returns-clause-made g c clean inside content =
    let a = state g.S.Store c.args.tx.now.conn.now in
    let b = state g.S.Store c.select_people.new.tx.conn.now in
    let d = state g.S.Store c.select_boards.new.tx.conn.now in
    let clean_b : HasCleanDisk b = omega (arith, clean, c.select_boards.ensures.survives.clean) in
    let first : Changes (λ x. x) a b = c.in_ok-people.ensures.looks clean_b inside in
    let second : Changes (λ x. x) b d = c.in_ok-boards.ensures.looks clean first.shown.mode in
    counted a b d content c.in_ok-people.people c.in_ok-boards.boards _ first (c.in_ok-people.ensures.found clean_b) second (c.in_ok-boards.ensures.found clean) c.len.ensures c.len-2.ensures
