use Rattle.std.proofs.lemmas.Result.{err_from_is_err_and}
use Rattle.sqlite.specs.Held.{state}
use Rattle.tb_sql.proofs.PersonRows.{has_person, person_excused}
use Rattle.tb_sql.proofs.people.has_person.Goals as goal

pub returns-clause-found : goal.returns-clause-found
returns-clause-found g c clean =
    let old = state g.S.Store c.args.tx.now.conn.now in
    let new = state g.S.Store c.find_rows.new.tx.conn.now in
    let rows = c.in_ok-rows.rows.items in
    rw (c.is_empty.ensures, c.in_ok-rows.rows.ok.0) (has_person old new c.args.id rows (rw (c.params-to_sql.ensures) at (c.in_ok-rows.ensures.shown clean)))

pub returns-in_err-rows-clause-excused : goal.returns-in_err-rows-clause-excused
returns-in_err-rows-clause-excused g c clean =
    let old = state g.S.Store c.args.tx.now.conn.now in
    let new = state g.S.Store c.find_rows.new.tx.conn.now in
    let p = err_from_is_err_and c.from_residual.result c.from_residual.ensures.1 in
    rw (p.1, p.2) (person_excused old new c.args.id _ (rw (c.params-to_sql.ensures) at (c.in_err-rows.ensures.refused clean)))
