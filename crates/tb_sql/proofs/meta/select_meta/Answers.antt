use Rattle.std.proofs.lemmas.Result.{err_from_is_err_and}
use Rattle.sqlite.specs.Held.{state}
use Rattle.tb_sql_tables.specs.Content.{IsContent}
use Rattle.tb_sql_tables.proofs.Changing.{where_value}
use Rattle.tb_sql.specs.Opening.{IsOfVersion}
use Rattle.tb_sql.proofs.MetaRows.{all_metas, meta_excused, our_row_is_read, row_excused, select_meta, shown_metas, version_is_read, version_read}
use Rattle.tb_sql.proofs.meta.select_meta.Goals as goal

pub returns-clause-found : goal.returns-clause-found
returns-clause-found g c clean =
    let old = state g.S.Store c.args.tx.now.conn.now in
    let new = state g.S.Store c.find_rows.new.tx.conn.now in
    let rows = c.in_ok-rows.rows.items in
    where_value c.read_all.result _ _ (rw c.deref.ensures.value at c.read_all.ensures.value) (select_meta old new rows (c.in_ok-rows.ensures.shown clean))

pub returns-clause-told : goal.returns-clause-told
returns-clause-told g c clean =
    let old = state g.S.Store c.args.tx.now.conn.now in
    let new = state g.S.Store c.find_rows.new.tx.conn.now in
    let rows = c.in_ok-rows.rows.items in
    where_value c.read_all.result _ _ (rw c.deref.ensures.value at c.read_all.ensures.value) (all_metas old new rows (c.in_ok-rows.ensures.shown clean))

pub returns-clause-shown : goal.returns-clause-shown
returns-clause-shown g c clean =
    let old = state g.S.Store c.args.tx.now.conn.now in
    let new = state g.S.Store c.find_rows.new.tx.conn.now in
    let rows = c.in_ok-rows.rows.items in
    where_value c.read_all.result _ _ (rw c.deref.ensures.value at c.read_all.ensures.value) (shown_metas old new rows (c.in_ok-rows.ensures.shown clean))

pub returns-clause-excused : goal.returns-clause-excused
returns-clause-excused g c clean =
    let old = state g.S.Store c.args.tx.now.conn.now in
    let new = state g.S.Store c.find_rows.new.tx.conn.now in
    let rows = c.in_ok-rows.rows.items in
    row_excused (λ content. IsContent content old.now) old new rows c.read_all.result (our_row_is_read old new rows (c.in_ok-rows.ensures.shown clean)) (rw c.deref.ensures.value at c.read_all.ensures.refused)

pub returns-in_err-rows-clause-excused : goal.returns-in_err-rows-clause-excused
returns-in_err-rows-clause-excused g c clean =
    let old = state g.S.Store c.args.tx.now.conn.now in
    let new = state g.S.Store c.find_rows.new.tx.conn.now in
    let p = err_from_is_err_and c.from_residual.result c.from_residual.ensures.1 in
    rw (p.1, p.2) (meta_excused old new _ (c.in_err-rows.ensures.refused clean))

pub returns-clause-hides : goal.returns-clause-hides
returns-clause-hides g c clean =
    let old = state g.S.Store c.args.tx.now.conn.now in
    let new = state g.S.Store c.find_rows.new.tx.conn.now in
    let rows = c.in_ok-rows.rows.items in
    row_excused (λ version. IsOfVersion version old.now) old new rows c.read_all.result (version_is_read old new rows (c.in_ok-rows.ensures.shown clean)) (rw c.deref.ensures.value at c.read_all.ensures.refused)

pub returns-in_err-rows-clause-hides : goal.returns-in_err-rows-clause-hides
returns-in_err-rows-clause-hides g c clean =
    let old = state g.S.Store c.args.tx.now.conn.now in
    let new = state g.S.Store c.find_rows.new.tx.conn.now in
    let p = err_from_is_err_and c.from_residual.result c.from_residual.ensures.1 in
    rw (p.1, p.2) (version_read old new _ (c.in_err-rows.ensures.refused clean))
