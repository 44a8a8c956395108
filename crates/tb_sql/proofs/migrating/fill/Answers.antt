use Rattle.std.proofs.Common.{◌∙◌, ap, arith, subst}
use Rattle.sqlite.specs.Held.{state}
use Rattle.sqlite.specs.State.{HasCleanDisk}
use Rattle.tb_sql_tables.specs.Statements.{Changes}
use Rattle.tb_sql.specs.Migrating.{horizon_changes}
use Rattle.tb_sql.specs.Writing.{changed_by_all}
use Rattle.tb_sql.proofs.Migrated.{filled}
use Rattle.tb_sql.proofs.migrating.fill.Goals as goal

pub returns-clause-made : goal.returns-clause-made
returns-clause-made g c clean inside content =
    let a = state g.S.Store c.args.tx.now.conn.now in
    let b = state g.S.Store c.select_people.new.tx.conn.now in
    let d = state g.S.Store c.select_boards.new.tx.conn.now in
    let e = state g.S.Store c.apply_changes.new.tx.conn.now in
    let clean_d : HasCleanDisk d = omega (arith, c.apply_changes.ensures.survives.clean) in
    let clean_b : HasCleanDisk b = omega (arith, clean_d, c.select_boards.ensures.survives.clean) in
    let first : Changes (λ x. x) a b = c.in_ok-people.ensures.looks clean_b inside in
    let second : Changes (λ x. x) b d = c.in_ok-boards.ensures.looks clean_d first.shown.mode in
    let put : Changes (changed_by_all (horizon_changes c.in_ok-boards.boards)) d e =
    subst (λ rows. Changes (changed_by_all rows) d e) (c.as_slice-2.ensures ∙ c.in_ok-rows.ensures ∙ ap horizon_changes c.as_slice.ensures) (c.in_ok-apply_changes.ensures.put clean second.shown.mode second.shown.is_open) in
    filled a b d e content c.in_ok-people.people c.in_ok-boards.boards _ first (c.in_ok-people.ensures.found clean_b) second (c.in_ok-boards.ensures.found clean_d) put c.len.ensures c.len-2.ensures
